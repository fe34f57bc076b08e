-- Lists of columns with a value each.
use Rattle.std.specs.Prelude.{ℕ, ◌+◌, ◌==◌, ◌<◌, length, slice_index_or, List, [], ◌∷◌, All, ℤ, pos, ◌+ℤ◌, ◌*ℤ◌, ◌<ℤ◌, if◌then◌else◌}
use Rattle.exact_lp.specs.declared.row.RowCell.{RowCell}
use Rattle.exact_lp.specs.declared.point.ColumnWeight.{ColumnWeight}

-- the columns are strictly ascending
abbrev pub AreAscendingCells : List RowCell → Type 0
AreAscendingCells cells = (k : ℕ) (d : RowCell) → k + 1 < length cells → (slice_index_or cells k d).column < (slice_index_or cells (k + 1) d).column

abbrev pub AreAscendingWeights : List ColumnWeight → Type 0
AreAscendingWeights weights = (k : ℕ) (d : ColumnWeight) → k + 1 < length weights → (slice_index_or weights k d).column < (slice_index_or weights (k + 1) d).column

abbrev pub ArePositive : List ColumnWeight → Type 0
ArePositive weights = All (λ w. pos 0 <ℤ w.weight) weights

-- the value at a column; a column that isn't listed has 0
abbrev pub value_at : List RowCell → ℕ → ℤ
value_at [] column = pos 0
value_at (cell ∷ cells) column = if cell.column == column then cell.value else value_at cells column

-- the sum over the weighed columns of a number of the column times its weight
abbrev pub weighed_sum : (ℕ → ℤ) → List ColumnWeight → ℤ
weighed_sum number [] = pos 0
weighed_sum number (w ∷ ws) = number w.column *ℤ w.weight +ℤ weighed_sum number ws
