-- What a search over arrivals has found so far.
use Rattle.std.specs.Prelude.{◌≡◌, ℕ, ◌<◌, ◌⊎◌, length, Option, Some, ℤ}
use Rattle.patterns.specs.Allowed.{Lists, list_of}
use Rattle.pair_prices.specs.Case.{CaseRecord}
use Rattle.pair_prices.specs.Fraction.{Fraction, pattern_of}
use Rattle.clique_cuts.specs.Over.{IsOverArrival, IsWithinUse, arrival, ComesBefore}

-- The platform is within its use at the pattern's arrival, where the pattern has weight and holds the platform.
abbrev pub IsClear : CaseRecord → Lists → Fraction → ℕ → ℕ → ℕ → Type 0
IsClear c lists f platform train place =
    0 < f.weight train place → (pattern_of c lists train place).platform ≡ platform
    → IsWithinUse c lists f platform (arrival c lists train place)

-- What is found is over, at an arrival.
abbrev pub IsFoundOver : CaseRecord → Lists → Fraction → ℕ → Option ℤ → Type 0
IsFoundOver c lists f platform found = (minute : ℤ) → found ≡ Some minute → IsOverArrival c lists f platform minute

-- The pattern is clear, unless it arrives when or after what is found.
abbrev pub IsClearBefore : CaseRecord → Lists → Fraction → ℕ → ℕ → ℕ → Option ℤ → Type 0
IsClearBefore c lists f platform train place found =
    ComesBefore (arrival c lists train place) found → IsClear c lists f platform train place

pub record IsLooked (c : CaseRecord) (lists : Lists) (f : Fraction) (platform train place : ℕ) (found : Option ℤ) : Type 0 where
  pub over : IsFoundOver c lists f platform found
  pub clear : IsClearBefore c lists f platform train place found

-- the same for the first patterns of a train
pub record IsTrainLooked (c : CaseRecord) (lists : Lists) (f : Fraction) (platform train count : ℕ) (found : Option ℤ) : Type 0 where
  pub over : IsFoundOver c lists f platform found
  pub clear : (place : ℕ) → place < count → IsClearBefore c lists f platform train place found

-- the same for all patterns of the first trains
pub record AreTrainsLooked (c : CaseRecord) (lists : Lists) (f : Fraction) (platform count : ℕ) (found : Option ℤ) : Type 0 where
  pub over : IsFoundOver c lists f platform found
  pub clear : (train place : ℕ) → train < count → place < length (list_of lists train) → IsClearBefore c lists f platform train place found

-- One of the two, and what comes before it comes before both.
pub record IsEarlier (a b found : Option ℤ) : Type 0 where
  pub one : (found ≡ a) ⊎ (found ≡ b)
  pub before_first : (minute : ℤ) → ComesBefore minute found → ComesBefore minute a
  pub before_second : (minute : ℤ) → ComesBefore minute found → ComesBefore minute b
