use Rattle.std.proofs.Common.{ℕ, ◌<◌, ◌≤◌, pos, slice_index_or, unsigned_abs}
use Rattle.ratio.proofs.row.most_size.Given as goal

abbrev pub invariant-loop-x : goal.invariant-loop-x
invariant-loop-x l = (k : ℕ) → k < l.x-index → unsigned_abs (slice_index_or l.cells k (pos 0)) ≤ l.most
