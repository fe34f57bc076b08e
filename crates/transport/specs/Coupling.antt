-- What a coupling of two lists of weights is, and what it costs.
use Rattle.std.specs.Prelude.{◌≡◌, ℕ, zero, suc, ◌^◌, ◌+◌, ◌<◌, ℤ, pos, ◌+ℤ◌, ◌*ℤ◌, ◌≤ℤ◌, ◌<ℤ◌, ◌≤◌, unsigned_abs, List, [], ◌∷◌, length, slice_index_or, if◌then◌else◌, ◌==◌, ◌⊎◌}
use Rattle.std.specs.List.{All}
use Rattle.transport.specs.declared.TableCell.{TableCell}

-- the sum of a list of weights
abbrev pub total : List ℤ → ℤ
total [] = pos 0
total (w ∷ ws) = w +ℤ total ws

-- n is the weights' total, and above 10^24
abbrev pub IsTotalAbove : List ℤ → ℤ → Type 0
IsTotalAbove ws n = (n ≡ total ws) × (pos (10 ^ 24) <ℤ total ws)

-- the number at a place of a list
abbrev pub at : List ℤ → ℕ → ℤ
at ws k = slice_index_or ws k (pos 0)

-- the sum of the products of the first n numbers of two lists
abbrev pub products : List ℤ → List ℤ → ℕ → ℤ
products xs ws zero = pos 0
products xs ws (suc n) = products xs ws n +ℤ (at xs n *ℤ at ws n)

-- the sum of a list's numbers, each times its weight
abbrev pub weighted : List ℤ → List ℤ → ℤ
weighted xs ws = products xs ws (length ws)

-- what the cells have in row i
abbrev pub row_sum : List TableCell → ℕ → ℤ
row_sum [] i = pos 0
row_sum (c ∷ cs) i = (if c.row == i then c.weight else pos 0) +ℤ row_sum cs i

-- what the cells have in column j
abbrev pub column_sum : List TableCell → ℕ → ℤ
column_sum [] j = pos 0
column_sum (c ∷ cs) j = (if c.column == j then c.weight else pos 0) +ℤ column_sum cs j

-- what the cells cost
abbrev pub cost_of : (ℕ → ℕ → ℕ) → List TableCell → ℤ
cost_of costs [] = pos 0
cost_of costs (c ∷ cs) = (pos (costs c.row c.column) *ℤ c.weight) +ℤ cost_of costs cs

-- a table of weights of at least 0, given by its cells, whose row and column sums are the two lists
pub record IsCoupling (left right : List ℤ) (cells : List TableCell) : Type 0 where
  pub in_rows : All (λ c. c.row < length left) cells
  pub in_columns : All (λ c. c.column < length right) cells
  pub weights : All (λ c. pos 0 ≤ℤ c.weight) cells
  pub row_sums : (i : ℕ) → i < length left → row_sum cells i ≡ at left i
  pub column_sums : (j : ℕ) → j < length right → column_sum cells j ≡ at right j

abbrev pub no_cell : TableCell
no_cell = record { row = 0; column = 0; weight = pos 0 }

-- the place of c comes before that of d: by row, and in a row by column
abbrev pub ComesBefore : TableCell → TableCell → Type 0
ComesBefore c d = (c.row < d.row) ⊎ ((c.row ≡ d.row) × (c.column < d.column))

-- the place of each cell comes before that of the next
abbrev pub AreAscending : List TableCell → Type 0
AreAscending cells =
    (k : ℕ) → k + 1 < length cells → ComesBefore (slice_index_or cells k no_cell) (slice_index_or cells (k + 1) no_cell)

-- a least coupling of the two lists, and potentials that show it
pub record IsLeastCoupling (costs : ℕ → ℕ → ℕ) (left right : List ℤ) (cells : List TableCell) (alpha beta : List ℤ) : Type 0 where
  pub coupling : IsCoupling left right cells
  pub ascending : AreAscending cells
  pub positive : All (λ c. pos 0 <ℤ c.weight) cells
  pub alpha_length : length alpha ≡ length left
  pub beta_length : length beta ≡ length right
  -- no two potentials pass a cost
  pub below : (i j : ℕ) → i < length left → j < length right → (at alpha i +ℤ at beta j) ≤ℤ pos (costs i j)
  -- the cells cost what the potentials are worth
  pub value : cost_of costs cells ≡ weighted alpha left +ℤ weighted beta right
  -- no coupling costs less
  pub least : (others : List TableCell) → IsCoupling left right others → cost_of costs cells ≤ℤ cost_of costs others
  pub alpha_size : All (λ a. unsigned_abs a ≤ 100000000000000) alpha
  pub beta_size : All (λ b. unsigned_abs b ≤ 100000000000000) beta

-- a least coupling of the two lists, with some potentials that show it
pub record IsShownLeast (costs : ℕ → ℕ → ℕ) (left right : List ℤ) (cells : List TableCell) : Type 0 where
  pub alpha : List ℤ
  pub beta : List ℤ
  pub least : IsLeastCoupling costs left right cells alpha beta

-- n is the cost of a coupling of the two lists, and no coupling costs less
pub record IsLeastCost (costs : ℕ → ℕ → ℕ) (left right : List ℤ) (n : ℤ) : Type 0 where
  pub reached : (cells : List TableCell) × IsCoupling left right cells × (cost_of costs cells ≡ n)
  pub least : (cells : List TableCell) → IsCoupling left right cells → n ≤ℤ cost_of costs cells
