-- The greedy plan. The trains take patterns in their order. Each takes, among its patterns that aren't forbidden together with
-- the choice of an earlier train, one that adds least to the cost, and of several such the one of the least number. What a
-- pattern adds is its price, its pair prices with the earlier choices, and the platform's price if no earlier train uses it.
-- Where some train has no such pattern there is no greedy plan.
use Rattle.std.specs.Prelude.{ℕ, zero, suc, ◌+◌, ◌==◌, Bool, not, nat_le, if◌then◌else◌, List, [], ◌∷◌, ◌++◌, length, filter, find, sum_by, Option, Some, None, option_map}
use Rattle.std.specs.List.{list_any, list_all}
use Rattle.station.specs.Allowed.{numbers}
use Rattle.patterns.specs.Book.{offers_of, pattern_at, price_at}
use Rattle.pair_prices.specs.Case.{CaseRecord}
use Rattle.pair_prices.specs.Pair.{are_forbidden, pair_price}
use Rattle.pair_prices.specs.Plan.{IsFeasible, chosen, platform_price}
use Rattle.plan_cost.specs.declared.plan.Plan.{Plan}

-- In all that follows `earlier` are the numbers that the first trains took, in order. The next train is the one whose number is
-- their count.

-- the next train's pattern and the choice of train s are forbidden together
abbrev pub is_against : CaseRecord → List ℕ → ℕ → ℕ → Bool
is_against c earlier number s = are_forbidden c.station (chosen c earlier s) (pattern_at c.book (length earlier) number)

-- the next train's pattern isn't forbidden with an earlier choice
unfoldable pub is_free : CaseRecord → List ℕ → ℕ → Bool
is_free c earlier number = not (list_any (is_against c earlier number) (numbers (length earlier)))

-- what the next train's pattern and the choice of train s cost together
abbrev pub price_beside : CaseRecord → List ℕ → ℕ → ℕ → ℕ
price_beside c earlier number s = pair_price c.station (chosen c earlier s) (pattern_at c.book (length earlier) number)

-- some earlier train uses the platform
abbrev pub is_taken : CaseRecord → List ℕ → ℕ → Bool
is_taken c earlier platform = list_any (λ s. (chosen c earlier s).platform == platform) (numbers (length earlier))

-- what the platform costs if no earlier train uses it
unfoldable pub price_if_new : CaseRecord → List ℕ → ℕ → ℕ
price_if_new c earlier platform = if is_taken c earlier platform then 0 else platform_price c platform

-- what the next train's pattern adds to the cost
unfoldable pub added_cost : CaseRecord → List ℕ → ℕ → ℕ
added_cost c earlier number =
    price_at c.book (length earlier) number
    + sum_by (price_beside c earlier number) (numbers (length earlier))
    + price_if_new c earlier (pattern_at c.book (length earlier) number).platform

-- the numbers of the next train's patterns that aren't forbidden with an earlier choice, ascending
unfoldable pub free_numbers : CaseRecord → List ℕ → List ℕ
free_numbers c earlier = filter (is_free c earlier) (numbers (length (offers_of c.book (length earlier))))

-- no free pattern of the next train adds less
abbrev pub adds_least : CaseRecord → List ℕ → ℕ → Bool
adds_least c earlier number = list_all (λ other. nat_le (added_cost c earlier number) (added_cost c earlier other)) (free_numbers c earlier)

-- the number that the next train takes: the first of those that add least
unfoldable pub number_taken : CaseRecord → List ℕ → Option ℕ
number_taken c earlier = find (adds_least c earlier) (free_numbers c earlier)

-- one train more
abbrev pub with_next : CaseRecord → Option (List ℕ) → Option (List ℕ)
with_next c None = None
with_next c (Some earlier) = option_map (λ number. earlier ++ number ∷ []) (number_taken c earlier)

-- the numbers that so many first trains take, or none where one of them finds no pattern
abbrev pub taken_by : CaseRecord → ℕ → Option (List ℕ)
taken_by c zero = Some []
taken_by c (suc trains) = with_next c (taken_by c trains)

unfoldable pub greedy_plan : CaseRecord → Option (List ℕ)
greedy_plan c = taken_by c (length c.book)

-- the numbers of a plan, if there is one
abbrev pub choice_of : Option Plan → Option (List ℕ)
choice_of None = None
choice_of (Some plan) = Some plan.choice

-- the plan, if there is one, is feasible
abbrev pub IsFeasibleIfAny : CaseRecord → Option Plan → Type 0
IsFeasibleIfAny c None = Unit {0}
IsFeasibleIfAny c (Some plan) = IsFeasible c plan.choice
