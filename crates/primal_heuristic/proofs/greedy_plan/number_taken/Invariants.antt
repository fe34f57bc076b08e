use Rattle.primal_heuristic.proofs.Least.{IsFoundBelow}
use Rattle.primal_heuristic.proofs.greedy_plan.number_taken.Given as goal

abbrev pub invariant-loop-number : goal.invariant-loop-number
invariant-loop-number l = IsFoundBelow l.case l.earlier l.number l.best
