use Rattle.std.proofs.Common.{◌≡◌, ℕ, ◌<◌, pos, slice_index_or}
use Rattle.leaf_bounds.proofs.potentials.clear.Given as goal

abbrev pub invariant-loop-sum : goal.invariant-loop-sum
invariant-loop-sum l = (i : ℕ) → i < l.sum-index → slice_index_or l.row i (pos 0) ≡ pos 0
