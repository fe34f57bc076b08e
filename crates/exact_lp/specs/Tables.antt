-- What a table of the engine keeps through its pivots.
use Rattle.std.specs.Prelude.{◌≡◌, ℕ, ◌+◌, ◌<◌, ◌≢◌, ◌↔◌, ◌⊎◌, List, [], ◌∷◌, length, map, All, ℤ, pos, neg_ℤ, ◌+ℤ◌, ◌*ℤ◌, ◌<ℤ◌, ◌≤ℤ◌, slice_index, slice_index_or}
use Rattle.ratio.specs.Cells.{KeepsSolutions, cell_at, dot}
use Rattle.exact_lp.specs.declared.table.Table.{Table}
use Rattle.exact_lp.specs.Places.{place_of}

abbrev pub row_at : List (List ℤ) → ℕ → List ℤ
row_at rows k = slice_index_or rows k []

abbrev pub number_at : List ℕ → ℕ → ℕ
number_at numbers k = slice_index numbers k

-- the equation that the cost is the sum of price times value, over the scale, the cost and the variables
abbrev pub price_cells : List ℤ → List ℤ
price_cells prices = pos 0 ∷ pos 1 ∷ map neg_ℤ prices

-- Rows over the scale, the cost and so many variables, each with a basic variable, and a cost row. A basic variable has a
-- positive cell in its row and none elsewhere. Wherever the rows hold, the cost row says what the cost is, by prices of
-- at least 0; those of the spare variables are 0.
pub record IsTable (rows : List (List ℤ)) (cost : List ℤ) (variables : ℕ) (basis spares : List ℕ) : Type 0 where
  pub prices : List ℤ
  pub one_each : length prices ≡ variables
  pub dear : All (λ price. pos 0 ≤ℤ price) prices
  pub free : (k : ℕ) → k < length spares → (number_at spares k < variables) × (cell_at (price_cells prices) (place_of (number_at spares k)) ≡ pos 0)
  pub wide : (k : ℕ) → k < length rows → length (row_at rows k) ≡ variables + 2
  pub cost_wide : length cost ≡ variables + 2
  pub costless : (k : ℕ) → k < length rows → cell_at (row_at rows k) 1 ≡ pos 0
  pub costs : pos 0 <ℤ cell_at cost 1
  pub based : length basis ≡ length rows
  pub basic : (k : ℕ) → k < length rows → number_at basis k < variables
  pub own : (k : ℕ) → k < length rows → pos 0 <ℤ cell_at (row_at rows k) (place_of (number_at basis k))
  pub apart : (j k : ℕ) → j < length rows → k < length rows → j ≢ k → cell_at (row_at rows j) (place_of (number_at basis k)) ≡ pos 0
  pub cleared : (k : ℕ) → k < length rows → cell_at cost (place_of (number_at basis k)) ≡ pos 0
  pub meant : (values : List ℤ) → All (λ row. dot row values ≡ pos 0) rows → (dot cost values ≡ pos 0) ↔ (dot (price_cells prices) values ≡ pos 0)

-- the row without the place: where the pivot has 0, it keeps each 0 and each positive cell, and its solutions where the pivot holds
pub record IsCleared (pivot : List ℤ) (place : ℕ) (old new : List ℤ) : Type 0 where
  pub size : length new ≡ length old
  pub gone : cell_at new place ≡ pos 0
  pub kept : KeepsSolutions pivot old new
  pub zero_stays : (k : ℕ) → cell_at pivot k ≡ pos 0 → cell_at old k ≡ pos 0 → cell_at new k ≡ pos 0
  pub sign_stays : (k : ℕ) → cell_at pivot k ≡ pos 0 → pos 0 <ℤ cell_at old k → pos 0 <ℤ cell_at new k

-- that is so of rows as wide as the pivot, where the pivot's cell is positive
abbrev pub Clears : List ℤ → ℕ → List ℤ → List ℤ → Type 0
Clears pivot place old new = length old ≡ length pivot → pos 0 <ℤ cell_at pivot place → IsCleared pivot place old new

-- the row, or the row with its signs turned
abbrev pub IsTurned : List ℤ → List ℤ → Type 0
IsTurned old new = (new ≡ old) ⊎ (new ≡ map neg_ℤ old)

-- the sum over the spare variables of the row's cell times a number; where there are fewer numbers, the others are 0
abbrev pub combination : List ℤ → List ℕ → List ℤ → ℤ
combination row [] numbers = pos 0
combination row (spare ∷ spares) [] = pos 0
combination row (spare ∷ spares) (number ∷ numbers) = cell_at row (place_of spare) *ℤ number +ℤ combination row spares numbers

-- the table's own lists are such
abbrev pub IsTableOf : Table → Type 0
IsTableOf table = IsTable table.rows.items table.cost (length table.variables.items) table.basis.items table.spares.items

-- each row is cleared
abbrev pub ClearsEach : List ℤ → ℕ → List (List ℤ) → List (List ℤ) → Type 0
ClearsEach pivot place olds news = (k : ℕ) → k < length olds → Clears pivot place (row_at olds k) (row_at news k)

-- the cells are the equation of so many prices of at least 0
pub record IsPriceRow (count : ℕ) (cells : List ℤ) : Type 0 where
  pub prices : List ℤ
  pub one_each : length prices ≡ count
  pub dear : All (λ price. pos 0 ≤ℤ price) prices
  pub cells_are : cells ≡ price_cells prices

-- the table's last variable is the spare one of a row to come, and has no cell yet
pub record IsNewSpare (table : Table) (spare : ℕ) : Type 0 where
  pub last : length table.variables.items ≡ spare + 1
  pub fits : place_of spare ≡ spare + 2
  pub alone : (k : ℕ) → k < length table.rows.items → cell_at (row_at table.rows.items k) (place_of spare) ≡ pos 0
  pub unpriced : cell_at table.cost (place_of spare) ≡ pos 0

-- a row to come, with a positive cell at its spare variable and none at the basic variables of the first so many rows
pub record IsNewRow (basis : List ℕ) (variables spare count : ℕ) (row : List ℤ) : Type 0 where
  pub size : length row ≡ variables + 2
  pub costless : cell_at row 1 ≡ pos 0
  pub above : pos 0 <ℤ cell_at row (place_of spare)
  pub clear : (k : ℕ) → k < count → cell_at row (place_of (number_at basis k)) ≡ pos 0
