use Rattle.std.proofs.Common.{◌≡◌, drop, ◌+ℤ◌}
use Rattle.transport.specs.Coupling.{total}
use Rattle.dual_ascent.proofs.coupling.total_of.Given as goal

-- the sum so far and what is left
abbrev pub invariant-loop-weight : goal.invariant-loop-weight
invariant-loop-weight l = l.sum +ℤ total (drop l.weight-index l.weights) ≡ total l.weights
