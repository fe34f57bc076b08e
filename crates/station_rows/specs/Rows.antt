-- The rows of the bound of a node, each by its value at each column. Together they say what a fractional plan is.
use Rattle.std.specs.Prelude.{◌≡◌, ℕ, ◌<◌, Bool, true, false, ◌==◌, ◌&&◌, List, length, slice_get, slice_index, slice_index_or, Some, ℤ, pos, neg_ℤ, ◌+ℤ◌}
use Rattle.exact_lp.specs.declared.row.Row.{Row}
use Rattle.exact_lp.specs.Columns.{value_at}
use Rattle.exact_lp.specs.Outcomes.{NamesBelow}
use Rattle.transport.specs.Coupling.{at}
use Rattle.patterns.specs.Allowed.{Lists}
use Rattle.pair_prices.specs.Case.{CaseRecord}
use Rattle.pair_prices.specs.Fraction.{holds_there, pattern_of}
use Rattle.leaf_bounds.specs.Total.{only_if}
use Rattle.pair_cuts.specs.declared.cut.PairCut.{PairCut}
use Rattle.pair_cuts.specs.Cut.{IsPairCut}
use Rattle.pattern_pricing.specs.declared.column.Column.{Column}
use Rattle.pattern_pricing.specs.declared.column.Column.TheVariants.{Weight, LeftOut, PlatformUse, PairValue}
use Rattle.pattern_pricing.specs.Layout.{LayoutRecord, columns_of}

-- The row has this value at each column, by what the column stands for, and names nothing else.
pub record IsRow (l : LayoutRecord) (value : Column → ℤ) (least : ℤ) (equal : Bool) (row : Row) : Type 0 where
  pub least_is : row.least ≡ least
  pub equal_is : row.equal ≡ equal
  pub below : NamesBelow (length (columns_of l)) row
  pub values : (number : ℕ) (column : Column) → slice_get (columns_of l) number ≡ Some column → value_at row.cells number ≡ value column

-- 1 at each choice of the train: at its patterns, and where it is left out
abbrev pub train_value : ℕ → Column → ℤ
train_value train (Weight w) = only_if (train == w.train) (pos 1)
train_value train (LeftOut t) = only_if (train == t) (pos 1)
train_value train (PlatformUse p) = pos 0
train_value train (PairValue p) = pos 0

-- The opening row of a train: the weights of its choices are the scale in total.
abbrev pub IsTrainRow : LayoutRecord → ℕ → Row → Type 0
IsTrainRow l train row = IsRow l (train_value train) (pos 1) true row

-- an opening row for each train, in their order
pub record AreTrainRows (l : LayoutRecord) (rows : List Row) : Type 0 where
  pub trains : length rows ≡ length l.lists
  pub each : (train : ℕ) (d : Row) → train < length l.lists → IsTrainRow l train (slice_index_or rows train d)

-- for each train the column of leaving it out, in their order
pub record AreLeftColumns (l : LayoutRecord) (columns : List ℕ) : Type 0 where
  pub trains : length columns ≡ length l.lists
  pub each : (train : ℕ) → train < length l.lists → slice_get (columns_of l) (slice_index columns train) ≡ Some (LeftOut train)

-- -1 at the platform's use
abbrev pub use_value : ℕ → Column → ℤ
use_value platform (Weight w) = pos 0
use_value platform (LeftOut t) = pos 0
use_value platform (PlatformUse p) = only_if (platform == p) (neg_ℤ (pos 1))
use_value platform (PairValue p) = pos 0

-- A platform's use is at most the scale.
abbrev pub IsUseRow : LayoutRecord → ℕ → Row → Type 0
IsUseRow l platform row = IsRow l (use_value platform) (neg_ℤ (pos 1)) false row

-- 1 at the platform's use, and -1 at each pattern that holds the platform at that minute
abbrev pub clique_value : CaseRecord → Lists → ℕ → ℤ → Column → ℤ
clique_value c lists platform minute (Weight w) =
    only_if (holds_there c platform minute (pattern_of c lists w.train w.place)) (neg_ℤ (pos 1))
clique_value c lists platform minute (LeftOut t) = pos 0
clique_value c lists platform minute (PlatformUse p) = only_if (platform == p) (pos 1)
clique_value c lists platform minute (PairValue p) = pos 0

-- The weights of the patterns that hold the platform at that minute are at most its use.
abbrev pub IsCliqueRow : CaseRecord → LayoutRecord → ℕ → ℤ → Row → Type 0
IsCliqueRow c l platform minute row = IsRow l (clique_value c l.lists platform minute) (pos 0) false row

-- 1 at the value of the two trains, and the cut's number at each of their choices with the other sign
abbrev pub pair_row_value : PairCut → Column → ℤ
pair_row_value cut (Weight w) =
    neg_ℤ (only_if (cut.first == w.train) (at cut.alpha w.place) +ℤ only_if (cut.second == w.train) (at cut.beta w.place))
pair_row_value cut (LeftOut t) =
    neg_ℤ (only_if (cut.first == t) cut.alpha_left +ℤ only_if (cut.second == t) cut.beta_left)
pair_row_value cut (PlatformUse p) = pos 0
pair_row_value cut (PairValue p) = only_if (cut.first == p.first && cut.second == p.second) (pos 1)

-- The value of the pair is at least what the cut is worth at the weights.
abbrev pub IsPairRow : LayoutRecord → PairCut → Row → Type 0
IsPairRow l cut row = IsRow l (pair_row_value cut) (pos 0) false row

-- The rows beside the opening rows: of each platform, of each platform and minute, and of each cut on two trains.
pub data StandsIn (c : CaseRecord) (l : LayoutRecord) (row : Row) : Type 0 where
  use_stands : (platform : ℕ) → platform < l.platforms → IsUseRow l platform row → StandsIn c l row
  clique_stands : (platform : ℕ) (minute : ℤ) → platform < l.platforms → IsCliqueRow c l platform minute row → StandsIn c l row
  pair_stands : (cut : PairCut) → cut.first < cut.second → cut.second < length l.lists
      → IsPairCut c l.lists cut.first cut.second cut → IsPairRow l cut row → StandsIn c l row
