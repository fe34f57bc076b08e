use Rattle.std.proofs.Common.{ℕ, ◌<◌, pos, slice_index_or}
use Rattle.ratio.specs.Cells.{CellFits}
use Rattle.ratio.proofs.row.each_cell_fits.Given as goal

abbrev pub invariant-loop-i : goal.invariant-loop-i
invariant-loop-i l = (k : ℕ) → k < l.i → CellFits l.fn.p l.fn.s (slice_index_or l.cells k (pos 0)) (slice_index_or l.other k (pos 0))
