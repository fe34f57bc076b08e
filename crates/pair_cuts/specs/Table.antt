-- The costs of two trains' choices as a table.
use Rattle.std.specs.Prelude.{◌≡◌, ℕ, ◌+◌, ◌<◌, ◌^◌, min, length, List, All, ℤ, pos, ◌≤ℤ◌}
use Rattle.patterns.specs.Allowed.{Lists, FitsBook}
use Rattle.pair_prices.specs.Case.{CaseRecord}
use Rattle.pair_prices.specs.Fraction.{left_out}
use Rattle.transport.specs.Coupling.{total}
use Rattle.pair_cuts.specs.Cut.{pair_costs}

pub record TwoTrains : Type 0 where
  pub case : CaseRecord
  pub lists : Lists
  pub first : ℕ
  pub second : ℕ

-- The lists fit the book, and the two trains are there, in order.
pub record AreThere (v : TwoTrains) : Type 0 where
  pub lists : FitsBook v.lists v.case.book
  pub order : v.first < v.second
  pub second : v.second < length v.case.book

-- the choices of the first train
abbrev pub row_count : TwoTrains → ℕ
row_count v = left_out v.lists v.first + 1

-- the choices of the second train
abbrev pub column_count : TwoTrains → ℕ
column_count v = left_out v.lists v.second + 1

-- What two choices cost. In a case no cost is above 10^13, so the limit changes none.
abbrev pub cost_at : TwoTrains → ℕ → ℕ → ℕ
cost_at v i j = min (pair_costs v.case v.lists v.first v.second i j) 10_000_000_000_000

-- the cost, or the cap where the cost is above it
abbrev pub capped_at : TwoTrains → ℕ → ℕ → ℕ → ℕ
capped_at v cap i j = min (cost_at v i j) cap

-- A weight of at least 0 for each choice of the two trains, with one total of at most 10^24.
pub record AreChoiceWeights (v : TwoTrains) (left right : List ℤ) : Type 0 where
  pub rows : length left ≡ row_count v
  pub columns : length right ≡ column_count v
  pub left_weights : All (λ w. pos 0 ≤ℤ w) left
  pub right_weights : All (λ w. pos 0 ≤ℤ w) right
  pub totals : total left ≡ total right
  pub scale : total left ≤ℤ pos (10 ^ 24)
