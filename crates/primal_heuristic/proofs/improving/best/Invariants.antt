use Rattle.primal_heuristic.specs.Better.{IsNoDearer}
use Rattle.primal_heuristic.proofs.improving.best.Given as goal

abbrev pub invariant-loop : goal.invariant-loop
invariant-loop l = IsNoDearer l.case l.fn.known l.best
