-- Points at which the rows hold, and fractional plans.
use Rattle.std.specs.Prelude.{◌≡◌, ℕ, List, length, ℤ, pos, ◌*ℤ◌, ◌≤ℤ◌}
use Rattle.exact_lp.specs.declared.row.Row.{Row}
use Rattle.exact_lp.specs.declared.point.Point.{Point}
use Rattle.exact_lp.specs.Columns.{weighed_sum}
use Rattle.exact_lp.specs.Programs.{IsLeast, IsWithin}
use Rattle.patterns.specs.declared.weights.Weights.{Weights}
use Rattle.patterns.specs.Weights.{FitsLists}
use Rattle.pair_prices.specs.Case.{CaseRecord}
use Rattle.pair_prices.specs.Fraction.{Fraction, IsFraction, scaled_cost}
use Rattle.pattern_pricing.specs.Layout.{LayoutRecord, columns_of}
use Rattle.pattern_pricing.specs.Prices.{IsLayoutOf, column_price}
use Rattle.station_rows.specs.Rows.{AreTrainRows, StandsIn}
use Rattle.station_rows.specs.Points.{ArePointWeights, AreUses, IsPlanPoint, MeetsRows}
use Rattle.station_rows.specs.Tables.{AreTables, Tables, fraction_with}

-- the price of each column
abbrev pub prices : CaseRecord → LayoutRecord → ℕ → ℤ
prices c l column = pos (column_price (record { case = c; layout = l }) column)

-- what the point's columns cost, times its scale
abbrev pub point_cost : CaseRecord → LayoutRecord → Point → ℤ
point_cost c l point = weighed_sum (prices c l) point.weights

-- Where the opening rows and all rows that stand hold at a point, its weights are those of a fractional plan, and no cut on two
-- trains is worth more than its value of the two.
abbrev pub PointsArePlans : Type 0
PointsArePlans =
    (c : CaseRecord) (l : LayoutRecord) → IsLayoutOf c l → (rows : List Row) → AreTrainRows l rows
    → (point : Point) → MeetsRows c l rows point → (w : Weights) → ArePointWeights l point w → IsPlanPoint c l point w

-- With a table for each pair that costs at most the point's value of the two, a point's weights make a fractional plan that costs
-- at most what the point does.
pub record IsPlanWithin (c : CaseRecord) (l : LayoutRecord) (point : Point) (f : Fraction) : Type 0 where
  pub scale : pos f.scale ≡ point.scale
  pub plan : IsFraction c l.lists f
  pub cost : pos (scaled_cost c l.lists f) ≤ℤ point_cost c l point

abbrev pub TablesMakePlans : Type 0
TablesMakePlans =
    (c : CaseRecord) (l : LayoutRecord) → IsLayoutOf c l → (point : Point) → IsWithin (length (columns_of l)) point.weights
    → (w : Weights) → ArePointWeights l point w → FitsLists l.lists w → AreUses c l w
    → (tables : Tables) → AreTables c l point w tables → IsPlanWithin c l point (fraction_with w tables)

-- The point has the scale and the cost of the fractional plan, and meets all rows.
pub record IsPointOf (c : CaseRecord) (l : LayoutRecord) (f : Fraction) (point : Point) : Type 0 where
  pub scale : point.scale ≡ pos f.scale
  pub cost : point_cost c l point ≡ pos (scaled_cost c l.lists f)
  pub meets : (rows : List Row) → AreTrainRows l rows → MeetsRows c l rows point

-- Each fractional plan over the lists gives a point of the same scale and cost that meets the opening rows and all rows that stand.
abbrev pub PlansArePoints : Type 0
PlansArePoints =
    (c : CaseRecord) (l : LayoutRecord) → IsLayoutOf c l → (f : Fraction) → IsFraction c l.lists f → (point : Point) × IsPointOf c l f point

-- No fractional plan over the lists costs less than a least point.
abbrev pub LeastPointsBoundPlans : Type 0
LeastPointsBoundPlans =
    (c : CaseRecord) (l : LayoutRecord) → IsLayoutOf c l → (rows : List Row) → AreTrainRows l rows → (point : Point)
    → IsLeast (prices c l) (length (columns_of l)) rows (StandsIn c l) point
    → (f : Fraction) → IsFraction c l.lists f → (point_cost c l point *ℤ pos f.scale) ≤ℤ (pos (scaled_cost c l.lists f) *ℤ point.scale)
