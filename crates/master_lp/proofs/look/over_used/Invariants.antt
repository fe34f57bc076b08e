use Rattle.std.proofs.Common.{ℕ, ◌<◌, ◌≤ℤ◌}
use Rattle.transport.specs.Coupling.{at}
use Rattle.master_lp.proofs.look.over_used.Given as goal

abbrev pub invariant-loop-platform : goal.invariant-loop-platform
invariant-loop-platform l = (p : ℕ) → p < l.platform → at l.weights.uses p ≤ℤ l.weights.scale
