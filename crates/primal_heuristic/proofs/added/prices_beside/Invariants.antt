use Rattle.primal_heuristic.proofs.Beside.{IsBeside}
use Rattle.primal_heuristic.proofs.added.prices_beside.Given as goal

abbrev pub invariant-loop-train : goal.invariant-loop-train
invariant-loop-train l = IsBeside l.case l.earlier l.number l.train l.total
