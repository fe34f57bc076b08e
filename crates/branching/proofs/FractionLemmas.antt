-- What a fractional plan costs at least.
use Rattle.std.proofs.Common.{◌≡◌, ℕ, zero, suc, ◌+◌, ◌*◌, ◌<◌, ◌≤◌, List, [], ◌∷◌, length, get_or, ap, ◌∙◌, arith}
use Rattle.std.specs.Prelude.{slice_index, sum_by}
use Rattle.std.proofs.lemmas.List.Sums.{sum_by-cons}
use Rattle.std.proofs.lemmas.Nat.{mul-le}
use Rattle.std.proofs.Math.Nat.{le_of_mul-le-mul_left}
use Rattle.station.specs.Allowed.{numbers}
use Rattle.patterns.specs.declared.offer.Offer.{Offer}
use Rattle.patterns.specs.Book.{no_offer, offers_of, price_at, Offers}
use Rattle.patterns.specs.Allowed.{Lists, list_of}
use Rattle.pair_prices.specs.Case.{CaseRecord}
use Rattle.pair_prices.specs.Fraction.{Fraction, choices, scaled_cost, weight_cost, weight_cost_of, IsFraction, IsLeastCost}
use Rattle.pair_prices.specs.Top.{greatest_price, top_of}
use Rattle.pair_prices.proofs.TopLemmas.{sum_numbers_more}
use Rattle.leaf_bounds.specs.Made.{least_price}
use Rattle.leaf_bounds.proofs.LeastLemmas.{least_limit, least_most}
use Rattle.branching.specs.Bounds.{least_sum}

-- ---- TOP is above each price

price_most : (os : List Offer) (n : ℕ) → (get_or os n no_offer).price ≤ greatest_price os
price_most [] n = omega arith
price_most (o ∷ os) zero = omega arith
price_most (o ∷ os) (suc n) = let rest = price_most os n in omega (arith, rest)

greatest_most : (book : Offers) (t : ℕ) → greatest_price (get_or book t []) ≤ sum_by greatest_price book
greatest_most [] t = omega arith
greatest_most (os ∷ book) zero = let all = sum_by-cons greatest_price os book in omega (arith, all)
greatest_most (os ∷ book) (suc t) =
    let rest = greatest_most book t in
    let all = sum_by-cons greatest_price os book in
    omega (arith, rest, all)

price_top : (c : CaseRecord) (t i : ℕ) → price_at c.book t i ≤ top_of c
unfolding top_of
price_top c t i =
    let one = price_most (offers_of c.book t) i in
    let all = greatest_most c.book t in
    omega (arith, one, all)

least_top : (c : CaseRecord) (lists : Lists) (t : ℕ) → least_price c lists t ≤ top_of c
least_top c lists t = least_limit (price_at c.book t) (list_of lists t) (top_of c) (λ k d l. price_top c t (get_or (list_of lists t) k d))

-- ---- sums

one_more : (f : ℕ → ℕ) (n : ℕ) → sum_by f (numbers (suc n)) ≡ sum_by f (numbers n) + f n
one_more f n = ap (λ m. sum_by f (numbers m)) (next n) ∙ sum_numbers_more f n
  where
    next : (n : ℕ) → suc n ≡ n + 1
    next n = omega arith

scaled_sum : (k : ℕ) (f g : ℕ → ℕ) (n : ℕ) → ((i : ℕ) → i < n → k * g i ≤ f i) → k * sum_by g (numbers n) ≤ sum_by f (numbers n)
scaled_sum k f g zero h = omega arith
scaled_sum k f g (suc n) h =
    let rest = scaled_sum k f g n (λ i l. h i (omega (arith, l))) in
    let here = h n (omega arith) in
    let left = ap (λ (m : ℕ). k * m) (one_more g n) in
    let right = one_more f n in
    omega (arith, rest, here, left, right)

-- ---- a train, and a plan

-- each weight of a train costs the least price of its list at least
train_costs : (c : CaseRecord) (lists : Lists) (f : Fraction) (t : ℕ)
    → least_price c lists t * sum_by (f.weight t) (choices lists t) ≤ weight_cost_of c lists f t
train_costs c lists f t =
    let n = length (list_of lists t) in
    let least = least_price c lists t in
    let listed = scaled_sum least (λ i. price_at c.book t (slice_index (list_of lists t) i) * f.weight t i) (f.weight t) n
    (λ i l. mul-le least (f.weight t i) (price_at c.book t (slice_index (list_of lists t) i)) (f.weight t i)
    (least_most (price_at c.book t) (list_of lists t) i 0 l) (omega arith)) in
    let left = mul-le least (f.weight t n) (top_of c) (f.weight t n) (least_top c lists t) (omega arith) in
    let all = ap (λ (m : ℕ). least * m) (sum_numbers_more (f.weight t) n) in
    omega (arith, listed, left, all)

plan_costs : (c : CaseRecord) (lists : Lists) (f : Fraction) → IsFraction c lists f → f.scale * least_sum c lists ≤ scaled_cost c lists f
unfolding least_sum scaled_cost
plan_costs c lists f is =
    let weights : f.scale * sum_by (least_price c lists) (numbers (length c.book)) ≤ weight_cost c lists f =
    scaled_sum f.scale (weight_cost_of c lists f) (least_price c lists) (length c.book)
    (λ t l.
    let one = train_costs c lists f t in
    let total = ap (λ (m : ℕ). least_price c lists t * m) (is.total t l) in
    omega (arith, one, total)) in
    omega (arith, weights)

cancelled : (scale sum cost value den : ℕ) → 1 ≤ scale → scale * sum ≤ cost → cost * den ≡ value * scale → sum * den ≤ value
cancelled scale sum cost value den some h e =
    let times : scale * sum * den ≤ cost * den = mul-le (scale * sum) den cost den h (omega arith) in
    let both : scale * (sum * den) ≤ scale * value = omega (arith, times, e) in
    le_of_mul-le-mul_left {m = sum * den} {n = value} {k = scale} both (omega (arith, some))

-- the least cost of a fractional plan is at least the sum of the least prices
pub least_value : (c : CaseRecord) (lists : Lists) (value den : ℕ) → IsLeastCost c lists value den → least_sum c lists * den ≤ value
least_value c lists value den is =
    let f = is.reached.0 in
    cancelled f.scale (least_sum c lists) (scaled_cost c lists f) value den is.reached.1.scale (plan_costs c lists f is.reached.1) is.reached.2
