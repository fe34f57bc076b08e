use Rattle.branching.specs.Lists.{IsCut}
use Rattle.branching.proofs.choice.choose_cut.Given as goal

abbrev pub invariant-loop-train : goal.invariant-loop-train
invariant-loop-train l = IsCut l.allowed.lists l.best.cut
