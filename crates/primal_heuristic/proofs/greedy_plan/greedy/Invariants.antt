use Rattle.std.proofs.Common.{◌≡◌, Some}
use Rattle.primal_heuristic.specs.Greedy.{taken_by}
use Rattle.primal_heuristic.proofs.greedy_plan.greedy.Given as goal

abbrev pub invariant-loop-train : goal.invariant-loop-train
invariant-loop-train l = taken_by l.case l._train ≡ Some l.choice.items
