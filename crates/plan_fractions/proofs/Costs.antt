-- The fractional plan of a feasible plan costs what the plan costs.
use Rattle.std.proofs.Common.{◌≡◌, ℕ, ◌+◌, ◌*◌, ◌<◌, Bool, true, false, eqb, cond, List, length, ap, ◌∙◌, arith}
use Rattle.std.specs.Prelude.{slice_index, sum_by}
use Rattle.std.proofs.lemmas.Bool.{ne_eqb}
use Rattle.std.proofs.lemmas.List.Elements.{All-weaker}
use Rattle.station.specs.Allowed.{numbers}
use Rattle.patterns.specs.Book.{pattern_at, price_at}
use Rattle.patterns.specs.Allowed.{list_of, full_lists}
use Rattle.pair_prices.specs.Case.{CaseRecord, IsCase}
use Rattle.pair_prices.specs.Top.{sealed_price, top_of}
use Rattle.pair_prices.specs.Trains.{TrainPair, train_pairs}
use Rattle.pair_prices.specs.Plan.{IsFeasible, chosen, cost, is_used, pair_cost, pair_cost_at, pattern_cost, platform_cost, platform_price}
use Rattle.pair_prices.specs.Fraction.{left_out, pattern_of, places, scaled_cost, table_cost, table_cost_of, use_cost, weight_cost, weight_cost_of}
use Rattle.pair_prices.proofs.Above.{IsTrainPair, all_pairs_there}
use Rattle.pair_prices.proofs.TopLemmas.{sum_by_same}
use Rattle.plan_fractions.proofs.FullLists.{full_count}
use Rattle.plan_fractions.proofs.Held.{fraction_of, place_is, places_one, weight_in}
use Rattle.plan_fractions.proofs.Sums.{sum_all, sum_same}

once : (n : ℕ) (b : Bool) → n * cond b 1 0 ≡ cond b n 0
once n true = omega arith
once n false = omega arith

second_once : (n w : ℕ) (b : Bool) → n * (w * cond b 1 0) ≡ cond b (n * w) 0
second_once n w true = ap (λ k. n * k) (one w)
  where
    one : (k : ℕ) → k * 1 ≡ k
    one k = omega arith
second_once n w false = ap (λ k. n * k) (none w) ∙ none n
  where
    none : (k : ℕ) → k * 0 ≡ 0
    none k = omega arith

-- no weight is left out
pub left_out_none : (c : CaseRecord) (plan : List ℕ) → IsFeasible c plan → (t : ℕ) → t < length c.book → weight_in plan t (left_out (full_lists c.book) t) ≡ 0
left_out_none c plan h t l =
    let there = h.fits.numbers t l in
    let count = full_count c.book t in
    ap (λ b. cond b 1 0) (ne_eqb (left_out (full_lists c.book) t) (slice_index plan t) (λ e. omega (arith, there, count, e)))

module _ (c : CaseRecord) (plan : List ℕ) (case : IsCase c) (feasible : IsFeasible c plan) where
  uses_same : use_cost c (fraction_of c plan) ≡ platform_cost c plan
  unfolding platform_cost
  uses_same =
      sum_by_same (λ p. platform_price c p * cond (is_used c plan p) 1 0) (λ p. cond (is_used c plan p) (platform_price c p) 0)
      (λ p. once (platform_price c p) (is_used c plan p)) (numbers (length c.station.platforms))

  weights_of : (t : ℕ) → t < length c.book → weight_cost_of c (full_lists c.book) (fraction_of c plan) t ≡ price_at c.book t (slice_index plan t)
  weights_of t h =
      let held : sum_by (λ i. price_at c.book t (slice_index (list_of (full_lists c.book) t) i) * weight_in plan t i) (places (full_lists c.book) t)
      ≡ price_at c.book t (slice_index plan t) =
      sum_same (λ i. price_at c.book t (slice_index (list_of (full_lists c.book) t) i) * weight_in plan t i)
      (λ i. cond (eqb i (slice_index plan t)) (price_at c.book t (slice_index (list_of (full_lists c.book) t) i)) 0)
      (length (list_of (full_lists c.book) t))
      (λ i l. once (price_at c.book t (slice_index (list_of (full_lists c.book) t) i)) (eqb i (slice_index plan t)))
      ∙ places_one c plan case feasible t (λ i. price_at c.book t (slice_index (list_of (full_lists c.book) t) i)) h
      ∙ ap (λ n. price_at c.book t n) (place_is c plan case feasible t h) in
      let out : top_of c * weight_in plan t (left_out (full_lists c.book) t) ≡ 0 =
      ap (λ n. top_of c * n) (left_out_none c plan feasible t h) ∙ none (top_of c) in
      omega (arith, held, out)
    where
      none : (k : ℕ) → k * 0 ≡ 0
      none k = omega arith

  weights_same : weight_cost c (full_lists c.book) (fraction_of c plan) ≡ pattern_cost c plan
  unfolding pattern_cost
  weights_same =
      sum_same (weight_cost_of c (full_lists c.book) (fraction_of c plan)) (λ t. price_at c.book t (slice_index plan t)) (length c.book) weights_of

  -- the pattern that the plan gives a train stands at the plan's number
  own_pattern : (t : ℕ) → t < length c.book → pattern_of c (full_lists c.book) t (slice_index plan t) ≡ chosen c plan t
  own_pattern t h = ap (λ n. pattern_at c.book t n) (place_is c plan case feasible t h)

  second_sum : (p : TrainPair) (i : ℕ) → p.second < length c.book
      → sum_by (λ j. sealed_price c (pattern_of c (full_lists c.book) p.first i) (pattern_of c (full_lists c.book) p.second j)
      * (weight_in plan p.first i * weight_in plan p.second j)) (places (full_lists c.book) p.second)
      ≡ cond (eqb i (slice_index plan p.first)) (sealed_price c (pattern_of c (full_lists c.book) p.first i) (chosen c plan p.second)) 0
  second_sum p i h =
      sum_same (λ j. sealed_price c (pattern_of c (full_lists c.book) p.first i) (pattern_of c (full_lists c.book) p.second j)
      * (weight_in plan p.first i * weight_in plan p.second j))
      (λ j. cond (eqb j (slice_index plan p.second))
      (sealed_price c (pattern_of c (full_lists c.book) p.first i) (pattern_of c (full_lists c.book) p.second j) * weight_in plan p.first i) 0)
      (length (list_of (full_lists c.book) p.second))
      (λ j l. second_once (sealed_price c (pattern_of c (full_lists c.book) p.first i) (pattern_of c (full_lists c.book) p.second j))
      (weight_in plan p.first i) (eqb j (slice_index plan p.second)))
      ∙ places_one c plan case feasible p.second
      (λ j. sealed_price c (pattern_of c (full_lists c.book) p.first i) (pattern_of c (full_lists c.book) p.second j) * weight_in plan p.first i) h
      ∙ ap (λ x. sealed_price c (pattern_of c (full_lists c.book) p.first i) x * weight_in plan p.first i) (own_pattern p.second h)
      ∙ once (sealed_price c (pattern_of c (full_lists c.book) p.first i) (chosen c plan p.second)) (eqb i (slice_index plan p.first))

  table_of : (p : TrainPair) → IsTrainPair (length c.book) p → table_cost_of c (full_lists c.book) (fraction_of c plan) p ≡ pair_cost_at c plan p
  unfolding sealed_price
  table_of p h =
      let there : p.first < length c.book = omega (arith, h.order, h.there) in
      sum_same (λ i. sum_by (λ j. sealed_price c (pattern_of c (full_lists c.book) p.first i) (pattern_of c (full_lists c.book) p.second j)
      * (weight_in plan p.first i * weight_in plan p.second j)) (places (full_lists c.book) p.second))
      (λ i. cond (eqb i (slice_index plan p.first)) (sealed_price c (pattern_of c (full_lists c.book) p.first i) (chosen c plan p.second)) 0)
      (length (list_of (full_lists c.book) p.first)) (λ i l. second_sum p i h.there)
      ∙ places_one c plan case feasible p.first (λ i. sealed_price c (pattern_of c (full_lists c.book) p.first i) (chosen c plan p.second)) there
      ∙ ap (λ x. sealed_price c x (chosen c plan p.second)) (own_pattern p.first there)
      ∙ ap (λ b. cond b (top_of c) (pair_cost_at c plan p)) (feasible.apart p.first p.second h.order h.there)

  tables_same : table_cost c (full_lists c.book) (fraction_of c plan) ≡ pair_cost c plan
  unfolding pair_cost
  tables_same =
      sum_all (table_cost_of c (full_lists c.book) (fraction_of c plan)) (pair_cost_at c plan) (train_pairs (length c.book))
      (All-weaker (IsTrainPair (length c.book)) (λ p. table_cost_of c (full_lists c.book) (fraction_of c plan) p ≡ pair_cost_at c plan p)
      table_of (train_pairs (length c.book)) (all_pairs_there (length c.book)))

  pub cost_same : scaled_cost c (full_lists c.book) (fraction_of c plan) ≡ cost c plan
  unfolding scaled_cost cost
  cost_same =
      ap (λ n. n + weight_cost c (full_lists c.book) (fraction_of c plan) + table_cost c (full_lists c.book) (fraction_of c plan)) uses_same
      ∙ ap (λ n. platform_cost c plan + n + table_cost c (full_lists c.book) (fraction_of c plan)) weights_same
      ∙ ap (λ n. platform_cost c plan + pattern_cost c plan + n) tables_same
