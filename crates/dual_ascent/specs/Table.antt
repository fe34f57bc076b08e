-- Tables of prices of two trains' kinds of patterns.
use Rattle.std.specs.Prelude.{ℕ, List, [], min, slice_index, slice_index_or}

-- the price at a row and a column, at most 10^13
abbrev pub capped_price : List (List ℕ) → ℕ → ℕ → ℕ
capped_price lines i j = min (slice_index (slice_index_or lines i []) j) 10000000000000
