-- The places of a list that have weight, and what is placed where only they are looked at.
use Rattle.std.specs.Prelude.{◌≡◌, ℕ, zero, suc, ◌<◌, ◌≤◌, List, [], ◌∷◌, length, slice_index}
use Rattle.transport.specs.declared.entries.Entry.{Entry}
use Rattle.transport.specs.Core.{IsFeasible, ArePlaced, row_weight, column_weight, cost_in, IsSolved}

-- the places of the weights above 0, where the first weight has the place n
abbrev pub kept_from : ℕ → List ℕ → List ℕ
kept_from n [] = []
kept_from n (zero ∷ ws) = kept_from (suc n) ws
kept_from n (suc w ∷ ws) = n ∷ kept_from (suc n) ws

-- the place, where the weight is above 0
abbrev pub kept_one : ℕ → ℕ → List ℕ
kept_one place zero = []
kept_one place (suc w) = place ∷ []

-- the entry in the whole table: its row and column are numbers of rows and columns kept
abbrev pub whole_entry : List ℕ → List ℕ → Entry → Entry
whole_entry rows columns e = record { row = slice_index rows e.row; column = slice_index columns e.column; weight = e.weight }

-- all weight is placed on tight entries, and no two potentials pass a cost
pub record IsPlacement (t : ℕ → ℕ → ℕ) (left right : List ℕ) (es : List Entry) (rows columns : List ℕ) : Type 0 where
  pub rows_length : length rows ≡ length left
  pub columns_length : length columns ≡ length right
  pub feasible : IsFeasible t rows columns
  pub placed : ArePlaced t rows columns es
  pub row_sums : (i : ℕ) → i < length left → row_weight es i ≡ slice_index left i
  pub column_sums : (j : ℕ) → j < length right → column_weight es j ≡ slice_index right j
  pub row_caps : (i : ℕ) → i < length rows → slice_index rows i ≤ 20000000000000
  pub column_caps : (j : ℕ) → j < length columns → slice_index columns j ≤ 20000000000000

-- some potentials show that the entries place the weights at least cost
abbrev pub IsShownSolved : (ℕ → ℕ → ℕ) → List ℕ → List ℕ → List Entry → Type 0
IsShownSolved t left right es = (rows : List ℕ) × (columns : List ℕ) × IsSolved t left right es rows columns

-- the weights can be placed at this cost, with potentials that show that it is least
abbrev pub IsSolvedAt : (ℕ → ℕ → ℕ) → List ℕ → List ℕ → ℕ → Type 0
IsSolvedAt t left right cost =
    (es : List Entry) × (rows : List ℕ) × (columns : List ℕ) × IsSolved t left right es rows columns × (cost ≡ cost_in t es)
