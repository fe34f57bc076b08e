-- Reduced prices, and how great the numbers on the way to them can be.
use Rattle.std.specs.Prelude.{◌≡◌, ℕ, ◌+◌, ◌*◌, ◌<◌, ◌^◌, ◌==◌, if◌then◌else◌, List, [], ◌∷◌, length, map, take, slice_index_or, ℤ, pos, ◌+ℤ◌, ◌*ℤ◌, unsigned_abs}
use Rattle.exact_lp.specs.declared.duals.Duals.{Duals}
use Rattle.exact_lp.specs.declared.row.Row.{Row}
use Rattle.exact_lp.specs.declared.row.RowCell.{RowCell}
use Rattle.exact_lp.specs.Programs.{reduced_price}
use Rattle.pair_prices.specs.Case.{CaseRecord}
use Rattle.pair_prices.specs.Top.{top_of}
use Rattle.pattern_pricing.specs.Prices.{PricingRecord, column_count, column_price}

-- the number at a place of a list
abbrev pub at : List ℤ → ℕ → ℤ
at xs k = slice_index_or xs k (pos 0)

-- the sum of the sizes of value times cell
abbrev pub cell_sizes : ℤ → List RowCell → ℕ
cell_sizes value [] = 0
cell_sizes value (cell ∷ cells) = unsigned_abs (value *ℤ cell.value) + cell_sizes value cells

-- the sum of the sizes of value times cell, over all rows and their cells
abbrev pub paid_sizes : List Row → List ℤ → ℕ
paid_sizes [] values = 0
paid_sizes (row ∷ rows) [] = 0
paid_sizes (row ∷ rows) (value ∷ values) = cell_sizes value row.cells + paid_sizes rows values

-- The scale of the duals times TOP, and the sizes of value times cell over all rows and their cells, are together at most
-- the greatest number of 128 bits.
abbrev pub AreSmall : CaseRecord → Duals → Type 0
AreSmall c duals = unsigned_abs duals.scale * top_of c + paid_sizes duals.rows duals.values < 2 ^ 127

-- the reduced price of each column
abbrev pub reduced_at : PricingRecord → Duals → ℕ → ℤ
reduced_at p duals number = reduced_price (pos (column_price p number)) duals number

pub record AreReduced (p : PricingRecord) (duals : Duals) (reduced : List ℤ) : Type 0 where
  pub long : length reduced ≡ column_count p
  pub each : (number : ℕ) → number < column_count p → at reduced number ≡ reduced_at p duals number

-- the first so many prices, times a scale
abbrev pub scaled_front : ℤ → List ℕ → ℕ → List ℤ
scaled_front scale prices count = map (λ price. scale *ℤ pos price) (take count prices)

-- what a cell pays at a column, for each unit of the row's value
abbrev pub paid_by_cell : ℤ → RowCell → ℕ → ℤ
paid_by_cell value cell column = if cell.column == column then value *ℤ cell.value else pos 0

-- the same of all cells
abbrev pub paid_by_cells : ℤ → List RowCell → ℕ → ℤ
paid_by_cells value [] column = pos 0
paid_by_cells value (cell ∷ cells) column = paid_by_cell value cell column +ℤ paid_by_cells value cells column

-- Each of the numbers can grow by so much and stays one of 128 bits.
abbrev pub HaveRoom : List ℤ → ℕ → Type 0
HaveRoom xs size = (k : ℕ) → k < length xs → unsigned_abs (at xs k) + size < 2 ^ 127
