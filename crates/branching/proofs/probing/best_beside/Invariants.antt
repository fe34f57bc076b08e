use Rattle.branching.specs.Lists.{IsCutIfAny}
use Rattle.branching.proofs.probing.best_beside.Given as goal

abbrev pub invariant-loop-train : goal.invariant-loop-train
invariant-loop-train l = IsCutIfAny l.allowed.lists l.best
