-- Classes of the patterns of two trains, and the prices of their pairs.
use Rattle.std.specs.Prelude.{◌≡◌, ℕ, ◌+◌, ◌*◌, ◌<◌, ◌≤◌, List, length, slice_index, slice_index_or, map, All, ℤ, pos, ◌≤ℤ◌}
use Rattle.station.specs.Allowed.{numbers}
use Rattle.patterns.specs.Book.{offers_of, pattern_at}
use Rattle.pair_prices.specs.Case.{CaseRecord}
use Rattle.pair_prices.specs.Top.{sealed_price}
use Rattle.pair_classes.specs.Groups.{line_at}

-- A class for each pattern of the first train and of the second, and the prices of two classes: a row for each class of
-- the first train.
pub record ClassTable : Type 0 where
  pub of_first : List ℕ
  pub of_second : List ℕ
  pub rows : ℕ
  pub columns : ℕ
  pub prices : List ℤ

-- what a pattern of the class of the first train costs beside one of the class of the second
abbrev pub class_price : ClassTable → ℕ → ℕ → ℤ
class_price t a b = slice_index_or t.prices (a * t.columns + b) (pos 0)

-- at least 0 and at most 10^13
pub record IsPrice (z : ℤ) : Type 0 where
  pub least : pos 0 ≤ℤ z
  pub most : z ≤ℤ pos 10_000_000_000_000

-- every pattern has a class, and every two classes have a price
pub record IsClassTable (t : ClassTable) : Type 0 where
  pub size : length t.prices ≡ t.rows * t.columns
  pub first : (i : ℕ) → i < length t.of_first → slice_index t.of_first i < t.rows
  pub second : (j : ℕ) → j < length t.of_second → slice_index t.of_second j < t.columns
  pub rows_most : t.rows ≤ 4096
  pub columns_most : t.columns ≤ 4096
  pub each : All IsPrice t.prices

-- the sealed price of the pattern i of train s and the pattern j of train t
abbrev pub sealed_at : CaseRecord → ℕ → ℕ → ℕ → ℕ → ℕ
sealed_at c s t i j = sealed_price c (pattern_at c.book s i) (pattern_at c.book t j)

-- The price of two classes is the sealed price of any two of their patterns, and patterns have one class where they cost the
-- same beside every pattern of the other train.
pub record ArePriced (c : CaseRecord) (s t : ℕ) (k : ClassTable) : Type 0 where
  pub first : length k.of_first ≡ length (offers_of c.book s)
  pub second : length k.of_second ≡ length (offers_of c.book t)
  pub price : (i j : ℕ) → i < length (offers_of c.book s) → j < length (offers_of c.book t)
      → class_price k (slice_index k.of_first i) (slice_index k.of_second j) ≡ pos (sealed_at c s t i j)
  pub same_first : (i l : ℕ) → i < length (offers_of c.book s) → l < length (offers_of c.book s)
      → ((j : ℕ) → j < length (offers_of c.book t) → sealed_at c s t i j ≡ sealed_at c s t l j)
      → slice_index k.of_first i ≡ slice_index k.of_first l
  pub same_second : (j l : ℕ) → j < length (offers_of c.book t) → l < length (offers_of c.book t)
      → ((i : ℕ) → i < length (offers_of c.book s) → sealed_at c s t i j ≡ sealed_at c s t i l)
      → slice_index k.of_second j ≡ slice_index k.of_second l
  -- where all their sealed prices are 0, the table has no other
  pub zeros : ((i j : ℕ) → i < length (offers_of c.book s) → j < length (offers_of c.book t) → sealed_at c s t i j ≡ 0)
      → All (λ p. p ≡ pos 0) k.prices

-- the prices of one pattern of train t beside all patterns of train s
abbrev pub column : CaseRecord → ℕ → ℕ → ℕ → List ℤ
column c s t j = map (λ i. pos (sealed_at c s t i j)) (numbers (length (offers_of c.book s)))

abbrev pub columns_of : CaseRecord → ℕ → ℕ → List (List ℤ)
columns_of c s t = map (column c s t) (numbers (length (offers_of c.book t)))

-- the prices that the picked lines have at that place
abbrev pub picked_line : List (List ℤ) → List ℕ → ℕ → List ℤ
picked_line lines picked place = map (λ h. slice_index_or (line_at lines h) place (pos 0)) picked

abbrev pub picked_lines : List (List ℤ) → List ℕ → ℕ → List (List ℤ)
picked_lines lines picked count = map (picked_line lines picked) (numbers count)
