use Rattle.std.proofs.Common.{◌≡◌, ℕ, ◌<◌, length, slice_index_or, drop, pos, ◌+ℤ◌}
use Rattle.leaf_bounds.specs.Sides.{value_on}
use Rattle.leaf_bounds.specs.Total.{total}
use Rattle.leaf_bounds.proofs.potentials.add_entries.Given as goal

-- at each pattern the sum with what is left is the sum that is wanted
abbrev pub invariant-loop-x : goal.invariant-loop-x
invariant-loop-x l =
    (i : ℕ) → i < length l.row
    → slice_index_or l.row i (pos 0) +ℤ total (value_on l.side l.train i) (drop l.x-index l.entries)
    ≡ slice_index_or l.initial.row i (pos 0) +ℤ total (value_on l.side l.train i) l.entries
