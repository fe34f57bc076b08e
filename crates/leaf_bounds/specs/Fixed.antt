-- The parts of the leaf of one plan: what each train pays, and what platforms and pairs are paid.
use Rattle.std.specs.Prelude.{◌≡◌, ℕ, ◌+◌, ◌==◌, Bool, false, if◌then◌else◌, List, [], ◌∷◌, length, find, flat_map, sum_by, slice_index, Option, Some, None, ℤ, pos}
use Rattle.station.specs.Allowed.{numbers}
use Rattle.patterns.specs.Book.{price_at}
use Rattle.pair_prices.specs.Case.{CaseRecord}
use Rattle.pair_prices.specs.Plan.{chosen, platform_price}
use Rattle.pair_prices.specs.Top.{sealed_price}
use Rattle.pair_prices.specs.Trains.{TrainPair, pairs_with, train_pairs}
use Rattle.leaf_bounds.specs.declared.number.MinuteValue.{MinuteValue}
use Rattle.leaf_bounds.specs.declared.number.PairValue.{PairValue}
use Rattle.leaf_bounds.specs.declared.leaf.Leaf.{Leaf}
use Rattle.leaf_bounds.specs.Building.{value_list}

-- the first train of the plan on the platform
unfoldable pub opener : CaseRecord → List ℕ → ℕ → Option ℕ
opener c plan k = find (λ t. (chosen c plan t).platform == k) (numbers (length c.book))

abbrev pub is_train : ℕ → Option ℕ → Bool
is_train t None = false
is_train t (Some s) = s == t

-- what the two trains' patterns cost together, or TOP where they are forbidden
abbrev pub sealed_at : CaseRecord → List ℕ → TrainPair → ℕ
sealed_at c plan p = sealed_price c (chosen c plan p.first) (chosen c plan p.second)

-- the price of the train's platform where the train is the first on it
unfoldable pub opening : CaseRecord → List ℕ → ℕ → ℕ
opening c plan t =
    if is_train t (opener c plan (chosen c plan t).platform) then platform_price c (chosen c plan t).platform else 0

-- all pairs of a train with later ones
unfoldable pub pairs_paid : CaseRecord → List ℕ → ℕ → ℕ
pairs_paid c plan t = sum_by (sealed_at c plan) (pairs_with (length c.book) t)

-- what a train pays: its pattern, its platform where it is the first on it, and its pairs with later trains
abbrev pub paid : CaseRecord → List ℕ → ℕ → ℕ
paid c plan t = price_at c.book t (slice_index plan t) + opening c plan t + pairs_paid c plan t

-- a number of a platform at a minute, which is listed unless it is 0
abbrev pub minute_entry : ℕ → ℤ → ℕ → List MinuteValue
minute_entry platform minute n = if n == 0 then [] else (record { platform = platform; minute = minute; value = pos n } ∷ [])

-- a platform's price at the arrival of the first train on it
abbrev pub listed_minute : CaseRecord → List ℕ → ℕ → Option ℕ → List MinuteValue
listed_minute c plan k None = []
listed_minute c plan k (Some t) = minute_entry k (chosen c plan t).arrive (platform_price c k)

unfoldable pub minute_list : CaseRecord → List ℕ → ℕ → List MinuteValue
minute_list c plan n = flat_map (λ k. listed_minute c plan k (opener c plan k)) (numbers n)

-- a number of a pair at a pattern, which is listed unless it is 0
abbrev pub pair_entry : ℕ → ℕ → ℕ → ℕ → List PairValue
pair_entry first second number n =
    if n == 0 then [] else (record { first = first; second = second; number = number; value = pos n } ∷ [])

-- what a pair costs, at the first train's pattern
abbrev pub listed_pair : CaseRecord → List ℕ → TrainPair → List PairValue
listed_pair c plan p = pair_entry p.first p.second (slice_index plan p.first) (sealed_at c plan p)

unfoldable pub pair_list : CaseRecord → List ℕ → List PairValue
pair_list c plan = flat_map (listed_pair c plan) (train_pairs (length c.book))

pub record IsLeafOfPlan (c : CaseRecord) (plan : List ℕ) (l : Leaf) : Type 0 where
  pub q : l.q ≡ pos 1
  pub u : l.u ≡ value_list (paid c plan) (length c.book)
  pub v : l.v ≡ minute_list c plan (length c.station.platforms)
  pub alpha : l.alpha ≡ pair_list c plan
  pub beta : l.beta ≡ []
