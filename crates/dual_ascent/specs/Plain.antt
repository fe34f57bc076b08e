-- How good a leaf is beside the leaf of least prices.
use Rattle.std.specs.Prelude.{ℕ, sum_by, length, ◌≤ℤ◌}
use Rattle.station.specs.Allowed.{numbers}
use Rattle.patterns.specs.Allowed.{Lists}
use Rattle.pair_prices.specs.Case.{CaseRecord}
use Rattle.leaf_bounds.specs.declared.leaf.Leaf.{Leaf}
use Rattle.leaf_bounds.specs.Leaf.{scaled, value_of}
use Rattle.leaf_bounds.specs.Made.{least_price}
use Rattle.leaf_bounds.specs.Shown.{numbers_of}

-- the sum over the trains of the least price in the train's list, 0 for an empty list: what the leaf of least prices is worth
abbrev pub least_prices : CaseRecord → Lists → ℕ
least_prices c lists = sum_by (least_price c lists) (numbers (length c.book))

-- The leaf's value over its scale is at least that.
abbrev pub IsAtLeastPlain : CaseRecord → Lists → Leaf → Type 0
IsAtLeastPlain c lists l = scaled (numbers_of l) (least_prices c lists) ≤ℤ value_of c (numbers_of l)
