-- Which of the columns with a negative reduced price is picked.
use Rattle.std.specs.Prelude.{◌≡◌, ℕ, ◌+◌, ◌<◌, ◌≤◌, ◌⊎◌, length, Option, MatchOption, ℤ, pos, ◌≤ℤ◌, ◌<ℤ◌}
use Rattle.pattern_pricing.specs.Layout.{LayoutRecord, columns_of}
use Rattle.pattern_pricing.specs.Positions.{start_of, patterns_in}

-- no number of these has a negative value
abbrev pub NoneNegative : (ℕ → ℤ) → ℕ → ℕ → Type 0
NoneNegative value from to = (number : ℕ) → from ≤ number → number < to → pos 0 ≤ℤ value number

-- among these numbers it has the least value, a negative one
pub record IsLeastNegative (value : ℕ → ℤ) (from to found : ℕ) : Type 0 where
  pub not_before : from ≤ found
  pub inside : found < to
  pub negative : value found <ℤ pos 0
  pub least : (number : ℕ) → from ≤ number → number < to → value found ≤ℤ value number

abbrev pub IsLeastOf : (ℕ → ℤ) → ℕ → ℕ → Option ℕ → Type 0
IsLeastOf value from to found = MatchOption found (NoneNegative value from to) (IsLeastNegative value from to)

-- the numbers of a train's patterns
pub record IsTrainPart (l : LayoutRecord) (from to : ℕ) : Type 0 where
  pub train : ℕ
  pub inside : train < length l.lists
  pub begins : from ≡ start_of l train
  pub ends : to ≡ start_of l (train + 1)

-- the numbers of all columns that are no patterns
pub record IsRestPart (l : LayoutRecord) (from to : ℕ) : Type 0 where
  pub begins : from ≡ patterns_in l
  pub ends : to ≡ length (columns_of l)

-- It has the least value among the patterns of the first train that has a negative one, or among the other columns where no
-- train has one.
pub record IsPick (l : LayoutRecord) (value : ℕ → ℤ) (found : ℕ) : Type 0 where
  pub from : ℕ
  pub to : ℕ
  pub part : IsTrainPart l from to ⊎ IsRestPart l from to
  pub before : NoneNegative value 0 from
  pub least : IsLeastNegative value from to found
