-- A feasible plan as a fractional plan, and what the root value says of it.
use Rattle.std.proofs.Common.{◌≡◌, ℕ, ◌+◌, ◌*◌, ◌<◌, ◌≤◌, Bool, true, false, eqb, cond, List, length, refl, ap, ◌∙◌, arith}
use Rattle.std.specs.Prelude.{slice_index, sum_by}
use Rattle.std.proofs.lemmas.Nat.{mul-le}
use Rattle.patterns.specs.Allowed.{list_of, full_lists}
use Rattle.pair_prices.specs.Case.{CaseRecord, IsCase}
use Rattle.pair_prices.specs.Plan.{IsFeasible, cost, is_used}
use Rattle.pair_prices.specs.Top.{top_of}
use Rattle.pair_prices.specs.Fraction.{IsFraction, choices, scaled_cost}
use Rattle.pair_prices.proofs.Above.{cost_below}
use Rattle.plan_fractions.specs.Laws.{PlanIsFractional, RootValueBounds, TopMeansNoPlan}
use Rattle.plan_fractions.proofs.Costs.{cost_same}
use Rattle.plan_fractions.proofs.Held.{choices_one, fraction_of, held_most, weight_in}
use Rattle.plan_fractions.proofs.Sums.{sum_same}

one_at_most : (b : Bool) → cond b 1 0 ≤ 1
one_at_most true = omega arith
one_at_most false = omega arith

first_once : (n : ℕ) (b : Bool) → n * cond b 1 0 ≡ cond b n 0
first_once n true = omega arith
first_once n false = omega arith

turned : (n : ℕ) (b : Bool) → cond b 1 0 * n ≡ cond b n 0
turned n true = omega arith
turned n false = omega arith

module _ (c : CaseRecord) (plan : List ℕ) (case : IsCase c) (feasible : IsFeasible c plan) where
  row_sum : (s t i : ℕ) → t < length c.book
      → sum_by (λ j. weight_in plan s i * weight_in plan t j) (choices (full_lists c.book) t) ≡ weight_in plan s i
  row_sum s t i h =
      sum_same (λ j. weight_in plan s i * weight_in plan t j) (λ j. cond (eqb j (slice_index plan t)) (weight_in plan s i) 0)
      (length (list_of (full_lists c.book) t) + 1) (λ j l. first_once (weight_in plan s i) (eqb j (slice_index plan t)))
      ∙ choices_one c plan case feasible t (λ j. weight_in plan s i) h

  column_sum : (s t j : ℕ) → s < length c.book
      → sum_by (λ i. weight_in plan s i * weight_in plan t j) (choices (full_lists c.book) s) ≡ weight_in plan t j
  column_sum s t j h =
      sum_same (λ i. weight_in plan s i * weight_in plan t j) (λ i. cond (eqb i (slice_index plan s)) (weight_in plan t j) 0)
      (length (list_of (full_lists c.book) s) + 1) (λ i l. turned (weight_in plan t j) (eqb i (slice_index plan s)))
      ∙ choices_one c plan case feasible s (λ i. weight_in plan t j) h

  is_fraction : IsFraction c (full_lists c.book) (fraction_of c plan)
  is_fraction = record {
    scale = omega arith;
    total = λ t h. choices_one c plan case feasible t (λ i. 1) h;
    use_most = λ p h. one_at_most (is_used c plan p);
    held = λ p h m. held_most c plan case feasible p m;
    rows = λ s t i l h k. row_sum s t i h;
    columns = λ s t j l h k. column_sum s t j (omega (arith, l, h));
  }

pub fractional : PlanIsFractional
fractional c case plan feasible = (fraction_of c plan, is_fraction c plan case feasible, refl, cost_same c plan case feasible)

pub bounded : RootValueBounds
bounded c case value scale root plan feasible =
    let least = root.least (fraction_of c plan) (is_fraction c plan case feasible) in
    let same : scaled_cost c (full_lists c.book) (fraction_of c plan) * scale ≡ cost c plan * scale =
    ap (λ n. n * scale) (cost_same c plan case feasible) in
    omega (arith, least, same)

pub no_plan : TopMeansNoPlan
no_plan c case value scale root high plan feasible =
    let most = bounded c case value scale root plan feasible in
    let below = cost_below c plan feasible in
    let times = mul-le (cost c plan + 1) scale (top_of c) scale (omega (arith, below)) (omega arith) in
    let some = root.positive in
    absurd (omega (arith, most, times, high, some))
