use Rattle.pattern_pricing.specs.Picks.{IsLeastOf}
use Rattle.pattern_pricing.specs.Reduced.{at}
use Rattle.pattern_pricing.proofs.pick.least_negative.Given as goal

abbrev pub invariant-loop-next : goal.invariant-loop-next
invariant-loop-next l = IsLeastOf (at l.reduced) l.from l.next l.best
