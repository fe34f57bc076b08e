-- Tables of pairs of trains, and the fractional plan of weights and tables.
use Rattle.std.specs.Prelude.{ℕ, ◌+◌, ◌<◌, ◌==◌, ◌&&◌, if◌then◌else◌, List, [], ◌∷◌, length, ℤ, ◌≤ℤ◌, unsigned_abs}
use Rattle.exact_lp.specs.declared.point.Point.{Point}
use Rattle.transport.specs.declared.TableCell.{TableCell}
use Rattle.transport.specs.Coupling.{IsCoupling, cost_of}
use Rattle.patterns.specs.declared.weights.Weights.{Weights}
use Rattle.patterns.specs.Weights.{choice_weights}
use Rattle.pair_prices.specs.Case.{CaseRecord}
use Rattle.pair_prices.specs.Fraction.{Fraction}
use Rattle.pair_prices.specs.Trains.{TrainPair}
use Rattle.clique_cuts.specs.Over.{fraction_of}
use Rattle.pair_cuts.specs.Cut.{pair_costs}
use Rattle.pattern_pricing.specs.Layout.{LayoutRecord}
use Rattle.station_rows.specs.Points.{IsWeightOf, value_column}

-- what the cells have at a row and a column
abbrev pub table_weight : List TableCell → ℕ → ℕ → ℕ
table_weight [] row column = 0
table_weight (cell ∷ cells) row column =
    (if cell.row == row && cell.column == column then unsigned_abs cell.weight else 0) + table_weight cells row column

-- the cells of the table of each pair
abbrev pub Tables : Type 0
Tables = TrainPair → List TableCell

-- the weights and uses, with these tables
abbrev pub fraction_with : Weights → Tables → Fraction
fraction_with w tables = record {
  scale = (fraction_of w).scale;
  weight = (fraction_of w).weight;
  «use» = (fraction_of w).use;
  table = λ p row column. table_weight (tables p) row column;
}

-- The table of each pair is a coupling of the two trains' weights, and costs at most the point's value of the two.
pub record AreTables (c : CaseRecord) (l : LayoutRecord) (point : Point) (w : Weights) (tables : Tables) : Type 0 where
  pub couple : (first second : ℕ) → first < second → second < length l.lists
      → IsCoupling (choice_weights w first) (choice_weights w second) (tables (record { first = first; second = second }))
  pub cheap : (first second : ℕ) → first < second → second < length l.lists
      → (value : ℤ) → IsWeightOf l point (value_column first second) value
      → cost_of (pair_costs c l.lists first second) (tables (record { first = first; second = second })) ≤ℤ value
