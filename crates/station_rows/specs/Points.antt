-- What a point says of the choices of trains and of platforms.
use Rattle.std.specs.Prelude.{◌≡◌, ℕ, ◌<◌, ◌==◌, if◌then◌else◌, List, [], ◌∷◌, length, slice_get, slice_index_or, Some, All, ℤ, pos, ◌≤ℤ◌}
use Rattle.exact_lp.specs.declared.row.Row.{Row}
use Rattle.exact_lp.specs.declared.point.ColumnWeight.{ColumnWeight}
use Rattle.exact_lp.specs.declared.point.Point.{Point}
use Rattle.exact_lp.specs.Programs.{Holds, IsWithin}
use Rattle.transport.specs.Coupling.{at}
use Rattle.patterns.specs.declared.weights.Weights.{Weights}
use Rattle.patterns.specs.Allowed.{list_of}
use Rattle.patterns.specs.Weights.{FitsLists, weights_of, left_of}
use Rattle.pair_prices.specs.Case.{CaseRecord}
use Rattle.pair_prices.specs.Trains.{TrainPair}
use Rattle.clique_cuts.specs.Over.{HasUses, NoneOver, fraction_of}
use Rattle.pair_cuts.specs.declared.cut.PairCut.{PairCut}
use Rattle.pair_cuts.specs.Cut.{IsPairCut, worth}
use Rattle.pattern_pricing.specs.declared.column.Column.{Column}
use Rattle.pattern_pricing.specs.declared.column.Column.TheVariants.{LeftOut, PlatformUse}
use Rattle.pattern_pricing.specs.Layout.{LayoutRecord, columns_of, weight_column, pair_column}
use Rattle.station_rows.specs.Rows.{StandsIn}

-- the weight of a column; a column that isn't listed has 0
abbrev pub weight_at : List ColumnWeight → ℕ → ℤ
weight_at [] column = pos 0
weight_at (w ∷ ws) column = if w.column == column then w.weight else weight_at ws column

-- The value is the weight of the column that stands for this.
abbrev pub IsWeightOf : LayoutRecord → Point → Column → ℤ → Type 0
IsWeightOf l point column value = (number : ℕ) → slice_get (columns_of l) number ≡ Some column → value ≡ weight_at point.weights number

-- the column of the value of two trains
abbrev pub value_column : ℕ → ℕ → Column
value_column first second = let p : TrainPair = record { first = first; second = second } in pair_column p

-- The weights have the point's scale, and each number is the point's weight of its column.
pub record ArePointWeights (l : LayoutRecord) (point : Point) (w : Weights) : Type 0 where
  pub scale : w.scale ≡ point.scale
  pub trains : length w.weight ≡ length l.lists
  pub left_trains : length w.left ≡ length l.lists
  pub lengths : (train : ℕ) → train < length l.lists → length (weights_of w train) ≡ length (list_of l.lists train)
  pub platforms : length w.uses ≡ l.platforms
  pub weights : (train place : ℕ) → IsWeightOf l point (weight_column train place) (slice_index_or (weights_of w train) place (pos 0))
  pub lefts : (train : ℕ) → IsWeightOf l point (LeftOut train) (left_of w train)
  pub uses : (platform : ℕ) → IsWeightOf l point (PlatformUse platform) (at w.uses platform)

-- The point has no other columns, and these opening rows and all rows that stand hold at it.
pub record MeetsRows (c : CaseRecord) (l : LayoutRecord) (rows : List Row) (point : Point) : Type 0 where
  pub within : IsWithin (length (columns_of l)) point.weights
  pub opening : All (λ row. Holds row point) rows
  pub standing : (row : Row) → StandsIn c l row → Holds row point

-- No cut on two trains is worth more at the weights than the point's value of the two.
abbrev pub NoCutAbove : CaseRecord → LayoutRecord → Point → Weights → Type 0
NoCutAbove c l point w =
    (cut : PairCut) → cut.first < cut.second → cut.second < length l.lists → IsPairCut c l.lists cut.first cut.second cut
    → (value : ℤ) → IsWeightOf l point (value_column cut.first cut.second) value → worth w cut.first cut.second cut ≤ℤ value

-- Each platform's use is at most the scale, and no minute of any platform is over.
pub record AreUses (c : CaseRecord) (l : LayoutRecord) (w : Weights) : Type 0 where
  pub there : HasUses c w
  pub most : (platform : ℕ) → platform < length c.station.platforms → at w.uses platform ≤ℤ w.scale
  pub held : NoneOver c l.lists (fraction_of w)

-- The weights are those of a fractional plan, and no cut on two trains is worth more than the point's value of the two.
pub record IsPlanPoint (c : CaseRecord) (l : LayoutRecord) (point : Point) (w : Weights) : Type 0 where
  pub fits : FitsLists l.lists w
  pub uses : AreUses c l w
  pub pairs : NoCutAbove c l point w
