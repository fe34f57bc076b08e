-- The latest arrival of the patterns at which a row has a value.
use Rattle.std.specs.Prelude.{◌≢◌, ℕ, ◌<◌, if◌then◌else◌, length, ℤ, pos, neg_ℤ, ◌≤ℤ◌, ⊤}
use Rattle.std.specs.Ordering.{int_eq}
use Rattle.exact_lp.specs.declared.row.Row.{Row}
use Rattle.patterns.specs.Allowed.{Lists, list_of}
use Rattle.pair_prices.specs.Case.{CaseRecord}
use Rattle.pair_prices.specs.Fraction.{pattern_of}
use Rattle.pattern_pricing.specs.declared.column.Column.{Column}
use Rattle.pattern_pricing.specs.declared.column.Column.TheVariants.{Weight, LeftOut, PlatformUse, PairValue}
use Rattle.pattern_pricing.specs.Layout.{LayoutRecord, weight_column}
use Rattle.dual_leaves.specs.Kinds.{cell_of}

-- the pattern of a weight's column is there
abbrev pub IsListed : Lists → Column → Type 0
IsListed lists (Weight w) = (w.train < length lists) × (w.place < length (list_of lists w.train))
IsListed lists (LeftOut train) = ⊤
IsListed lists (PlatformUse platform) = ⊤
IsListed lists (PairValue p) = ⊤

-- when the column's pattern arrives, if the value isn't 0; otherwise the first minute
abbrev pub arrival_or : CaseRecord → Lists → Column → ℤ → ℤ
arrival_or c lists (Weight w) value = if int_eq value (pos 0) then neg_ℤ (pos 30) else (pattern_of c lists w.train w.place).arrive
arrival_or c lists (LeftOut train) value = neg_ℤ (pos 30)
arrival_or c lists (PlatformUse platform) value = neg_ℤ (pos 30)
arrival_or c lists (PairValue p) value = neg_ℤ (pos 30)

-- All patterns at which the row has a value arrive by then, or by no minute from the first one on that is earlier.
pub record IsLatest (c : CaseRecord) (l : LayoutRecord) (row : Row) (minute : ℤ) : Type 0 where
  pub first : neg_ℤ (pos 30) ≤ℤ minute
  pub last : minute ≤ℤ pos 2909
  pub most : (train place : ℕ) → train < length l.lists → place < length (list_of l.lists train)
      → cell_of l row (weight_column train place) ≢ pos 0 → (pattern_of c l.lists train place).arrive ≤ℤ minute
  pub least : (bound : ℤ) → neg_ℤ (pos 30) ≤ℤ bound
      → ((train place : ℕ) → train < length l.lists → place < length (list_of l.lists train)
      → cell_of l row (weight_column train place) ≢ pos 0 → (pattern_of c l.lists train place).arrive ≤ℤ bound)
      → minute ≤ℤ bound
