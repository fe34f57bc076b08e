-- Rows at points, prices of columns under duals, and what an exact answer shows.
use Rattle.std.specs.Prelude.{◌≡◌, ℕ, ◌<◌, ◌⊎◌, List, [], ◌∷◌, All, Contains, ℤ, pos, ◌+ℤ◌, ◌-ℤ◌, ◌*ℤ◌, ◌≤ℤ◌, ◌<ℤ◌, MatchBool}
use Rattle.exact_lp.specs.declared.row.Row.{Row}
use Rattle.exact_lp.specs.declared.point.ColumnWeight.{ColumnWeight}
use Rattle.exact_lp.specs.declared.point.Point.{Point}
use Rattle.exact_lp.specs.declared.duals.Duals.{Duals}
use Rattle.exact_lp.specs.Columns.{value_at, weighed_sum}

-- the sum of the row's value times the weight
abbrev pub row_sum : Row → Point → ℤ
row_sum row point = weighed_sum (value_at row.cells) point.weights

-- the row holds at the point
abbrev pub Holds : Row → Point → Type 0
Holds row point = MatchBool row.equal (row_sum row point ≡ row.least *ℤ point.scale) ((row.least *ℤ point.scale) ≤ℤ row_sum row point)

-- the sum over the rows of the dual value times the row's value at the column
abbrev pub paid_by_rows : List Row → List ℤ → ℕ → ℤ
paid_by_rows [] values column = pos 0
paid_by_rows (row ∷ rows) [] column = pos 0
paid_by_rows (row ∷ rows) (value ∷ values) column = value *ℤ value_at row.cells column +ℤ paid_by_rows rows values column

-- a column's price that the rows don't pay, times the scale of the duals
abbrev pub reduced_price : ℤ → Duals → ℕ → ℤ
reduced_price price duals column = duals.scale *ℤ price -ℤ paid_by_rows duals.rows duals.values column

-- the sum of dual value times least
abbrev pub valued_leasts : List Row → List ℤ → ℤ
valued_leasts [] values = pos 0
valued_leasts (row ∷ rows) [] = pos 0
valued_leasts (row ∷ rows) (value ∷ values) = value *ℤ row.least +ℤ valued_leasts rows values

-- the point costs what the duals do, by cross products
abbrev pub CostSame : (ℕ → ℤ) → Point → Duals → Type 0
CostSame price point duals = weighed_sum price point.weights *ℤ duals.scale ≡ valued_leasts duals.rows duals.values *ℤ point.scale

-- the point has no other columns
abbrev pub IsWithin : ℕ → List ColumnWeight → Type 0
IsWithin count weights = All (λ w. w.column < count) weights

-- a point over the columns that meets the rows, and duals over some of them that show that no such point costs less
pub record ShowsLeast (price : ℕ → ℤ) (count : ℕ) (opening : List Row) (stands : Row → Type 0) (point : Point) (duals : Duals) : Type 0 where
  pub within : IsWithin count point.weights
  pub opening_hold : All (λ row. Holds row point) opening
  pub standing_hold : (row : Row) → stands row → Holds row point
  pub rows_given : All (λ row. Contains opening row ⊎ stands row) duals.rows
  pub not_improving : (column : ℕ) → column < count → pos 0 ≤ℤ reduced_price (price column) duals column
  pub same_cost : CostSame price point duals

-- no point over the columns at which the rows hold costs less than these duals over them
abbrev pub BoundsPoints : (ℕ → ℤ) → ℕ → Duals → Type 0
BoundsPoints price count duals =
    (other : Point) → IsWithin count other.weights → All (λ row. Holds row other) duals.rows
    → (valued_leasts duals.rows duals.values *ℤ other.scale) ≤ℤ (weighed_sum price other.weights *ℤ duals.scale)

-- no point over the columns that meets the rows costs less
abbrev pub IsLeast : (ℕ → ℤ) → ℕ → List Row → (Row → Type 0) → Point → Type 0
IsLeast price count opening stands point =
    (other : Point) → IsWithin count other.weights → All (λ row. Holds row other) opening → ((row : Row) → stands row → Holds row other)
    → (weighed_sum price point.weights *ℤ other.scale) ≤ℤ (weighed_sum price other.weights *ℤ point.scale)

-- the column is there and has a negative reduced price
pub record Improves (price : ℕ → ℕ) (count : ℕ) (duals : Duals) (column : ℕ) : Type 0 where
  pub within : column < count
  pub negative : reduced_price (pos (price column)) duals column <ℤ pos 0
