-- The signs of dual values.
use Rattle.std.specs.Prelude.{◌≡◌, ℕ, ◌<◌, false, List, length, slice_index_or, ℤ, pos, ◌≤ℤ◌}
use Rattle.exact_lp.specs.declared.row.Row.{Row}

-- the value of each row that isn't equal is at least 0
abbrev pub AreSigned : List Row → List ℤ → Type 0
AreSigned rows values = (k : ℕ) (d : Row) → k < length rows → (slice_index_or rows k d).equal ≡ false → pos 0 ≤ℤ slice_index_or values k (pos 0)
