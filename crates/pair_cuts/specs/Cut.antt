-- Cuts on pairs of trains, and what they are worth.
use Rattle.std.specs.Prelude.{◌≡◌, ℕ, ◌≤◌, ◌^◌, List, [], ◌∷◌, ◌++◌, length, if◌then◌else◌, ◌&&◌, nat_lt, All, ℤ, pos, ◌+ℤ◌, ◌≤ℤ◌, ◌<ℤ◌, unsigned_abs}
use Rattle.patterns.specs.declared.weights.Weights.{Weights}
use Rattle.patterns.specs.Allowed.{Lists}
use Rattle.patterns.specs.Weights.{choice_weights}
use Rattle.pair_prices.specs.Case.{CaseRecord}
use Rattle.pair_prices.specs.Top.{sealed_price}
use Rattle.pair_prices.specs.Fraction.{left_out, pattern_of}
use Rattle.transport.specs.Coupling.{IsLeastCost, at, weighted}
use Rattle.pair_cuts.specs.declared.cut.PairCut.{PairCut}

-- What a choice of the first train costs beside a choice of the second: the sealed price of the two patterns, and
-- nothing where one of the trains is left out.
unfoldable pub pair_costs : CaseRecord → Lists → ℕ → ℕ → ℕ → ℕ → ℕ
pair_costs c lists first second i j =
    if nat_lt i (left_out lists first) && nat_lt j (left_out lists second)
    then sealed_price c (pattern_of c lists first i) (pattern_of c lists second j) else 0

-- the numbers at the choices of the first train, left out last
abbrev pub alphas : PairCut → List ℤ
alphas cut = cut.alpha ++ cut.alpha_left ∷ []

-- the numbers at the choices of the second train
abbrev pub betas : PairCut → List ℤ
betas cut = cut.beta ++ cut.beta_left ∷ []

-- There is a number for each choice of the two trains. The numbers at two choices are together at most what the choices
-- cost: the sealed price of two allowed patterns, and 0 wherever left out takes part.
pub record IsPairCut (c : CaseRecord) (lists : Lists) (first second : ℕ) (cut : PairCut) : Type 0 where
  pub is_first : cut.first ≡ first
  pub is_second : cut.second ≡ second
  pub alpha : length cut.alpha ≡ left_out lists first
  pub beta : length cut.beta ≡ left_out lists second
  pub holds : (i j : ℕ) → i ≤ left_out lists first → j ≤ left_out lists second
      → (at (alphas cut) i +ℤ at (betas cut) j) ≤ℤ pos (pair_costs c lists first second i j)

-- No number of the cut is above 10^15 in size.
pub record IsSmall (cut : PairCut) : Type 0 where
  pub alpha : All (λ a. unsigned_abs a ≤ 1_000_000_000_000_000) (alphas cut)
  pub beta : All (λ b. unsigned_abs b ≤ 1_000_000_000_000_000) (betas cut)

-- what the cut is worth at the weights
abbrev pub worth : Weights → ℕ → ℕ → PairCut → ℤ
worth w first second cut = weighted (alphas cut) (choice_weights w first) +ℤ weighted (betas cut) (choice_weights w second)

-- The value is the least cost of a coupling of the two trains' weights.
abbrev pub IsLeastPairCost : CaseRecord → Lists → Weights → ℕ → ℕ → ℤ → Type 0
IsLeastPairCost c lists w first second value =
    IsLeastCost (pair_costs c lists first second) (choice_weights w first) (choice_weights w second) value

-- The least cost of a coupling of the two trains' weights is at most the pair value.
abbrev pub IsMet : CaseRecord → Lists → Weights → ℕ → ℕ → ℤ → Type 0
IsMet c lists w first second pair_value =
    (value : ℤ) × IsLeastPairCost c lists w first second value × (value ≤ℤ pair_value)

-- n is the scale, which is above 10^24
abbrev pub IsScaleAbove : Weights → ℤ → Type 0
IsScaleAbove w n = (n ≡ w.scale) × (pos (10 ^ 24) <ℤ w.scale)

-- The cut holds, and at the weights it is worth the least cost of a coupling, which is above the pair value.
pub record IsViolated (c : CaseRecord) (lists : Lists) (w : Weights) (first second : ℕ) (pair_value : ℤ) (cut : PairCut) : Type 0 where
  pub holds : IsPairCut c lists first second cut
  pub small : IsSmall cut
  pub least : IsLeastPairCost c lists w first second (worth w first second cut)
  pub above : pair_value <ℤ worth w first second cut
