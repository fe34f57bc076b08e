use Rattle.pattern_pricing.specs.Picks.{NoneNegative}
use Rattle.pattern_pricing.specs.Positions.{start_of}
use Rattle.pattern_pricing.specs.Reduced.{at}
use Rattle.pattern_pricing.proofs.pick.pick.Given as goal

abbrev pub invariant-loop-train : goal.invariant-loop-train
invariant-loop-train l = NoneNegative (at l.reduced) 0 (start_of l.layout l.train)
