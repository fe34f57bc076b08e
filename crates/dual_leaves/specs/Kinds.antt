-- The rows of the bound by what they hold to, and how a row's columns tell that.
use Rattle.std.specs.Prelude.{ℕ, ◌<◌, ◌⊎◌, Bool, ◌&&◌, not, if◌then◌else◌, length, All, Contains, List, Option, Some, None, ℤ, pos, int_lt}
use Rattle.std.specs.Ordering.{int_eq}
use Rattle.exact_lp.specs.declared.row.Row.{Row}
use Rattle.exact_lp.specs.Columns.{value_at}
use Rattle.pair_prices.specs.Case.{CaseRecord}
use Rattle.pair_cuts.specs.declared.cut.PairCut.{PairCut}
use Rattle.pair_cuts.specs.Cut.{IsPairCut}
use Rattle.pattern_pricing.specs.declared.column.Column.{Column}
use Rattle.pattern_pricing.specs.declared.column.Column.TheVariants.{Weight, LeftOut, PlatformUse, PairValue}
use Rattle.pattern_pricing.specs.Layout.{LayoutRecord}
use Rattle.pattern_pricing.specs.Positions.{position}
use Rattle.station_rows.specs.Rows.{AreTrainRows, IsTrainRow, IsUseRow, IsCliqueRow, IsPairRow, StandsIn}
use Rattle.dual_leaves.specs.declared.kind.RowKind.{RowKind}
use Rattle.dual_leaves.specs.declared.kind.RowKind.TheVariants.{Train, Use, Clique, Pair}

-- Each row is one of some opening rows, or stands.
pub record AreStationRows (c : CaseRecord) (l : LayoutRecord) (rows : List Row) : Type 0 where
  pub opening : List Row
  pub trains : AreTrainRows l opening
  pub given : All (λ row. Contains opening row ⊎ StandsIn c l row) rows

-- an opening row of a train, or a row that stands
abbrev pub IsStationRow : CaseRecord → LayoutRecord → Row → Type 0
IsStationRow c l row = ((train : ℕ) × (train < length l.lists) × IsTrainRow l train row) ⊎ StandsIn c l row

-- the row's value at a column
abbrev pub cell_of : LayoutRecord → Row → Column → ℤ
cell_of l row column = value_at row.cells (position l column)

-- An equal row is that of the train that it lets be left out, whatever it has at other columns. Another row holds to what it has of a
-- platform's use or of the value of two trains.
abbrev pub kind_at : Bool → Column → ℤ → Option RowKind
kind_at equal (Weight w) value = None
kind_at equal (LeftOut train) value = if equal && not (int_eq value (pos 0)) then Some (Train train) else None
kind_at equal (PlatformUse platform) value =
    if int_lt (pos 0) value then Some (Clique platform) else (if int_lt value (pos 0) then Some (Use platform) else None)
kind_at equal (PairValue p) value = if not (int_eq value (pos 0)) then Some (Pair p) else None

abbrev pub IsKind : CaseRecord → LayoutRecord → Row → RowKind → Type 0
IsKind c l row (Train train) = (train < length l.lists) × IsTrainRow l train row
IsKind c l row (Use platform) = (platform < l.platforms) × IsUseRow l platform row
IsKind c l row (Clique platform) = (platform < l.platforms) × ((minute : ℤ) × IsCliqueRow c l platform minute row)
IsKind c l row (Pair p) =
    (p.first < p.second) × (p.second < length l.lists) × ((cut : PairCut) × IsPairCut c l.lists p.first p.second cut × IsPairRow l cut row)
