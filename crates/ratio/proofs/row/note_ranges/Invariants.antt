use Rattle.std.proofs.Common.{ℕ, ◌<◌, pos, slice_index_or, FitsSigned}
use Rattle.std.specs.Int.{w128}
use Rattle.ratio.proofs.row.note_ranges.Given as goal

abbrev pub invariant-loop-place : goal.invariant-loop-place
invariant-loop-place l = (k : ℕ) → k < l.place → FitsSigned w128 (slice_index_or l.cells k (pos 0))
