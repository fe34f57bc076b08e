use Rattle.branching.specs.Lists.{IsCut}
use Rattle.branching.proofs.probing.probed_cut.Given as goal

abbrev pub invariant-loop-rank : goal.invariant-loop-rank
invariant-loop-rank l = IsCut l.part.allowed.lists l.best.cut
