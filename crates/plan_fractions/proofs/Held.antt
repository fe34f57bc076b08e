-- The fractional plan of a plan: its weights, and what they hold.
use Rattle.std.proofs.Common.{◌≡◌, ℕ, ◌+◌, ◌*◌, ◌<◌, ◌≤◌, ◌==◌, ◌&&◌, Bool, true, false, eqb, cond, List, length, refl, sym, ap, ◌∙◌, arith, ℤ}
use Rattle.std.specs.Prelude.{slice_index, sum_by}
use Rattle.std.specs.List.{list_any}
use Rattle.std.proofs.lemmas.Bool.{eqb-true}
use Rattle.std.proofs.lemmas.List.Folds.{list_any_at}
use Rattle.std.proofs.lemmas.List.FromFn.{get_or-range_with_len, length-range_with_len}
use Rattle.station.specs.Allowed.{numbers}
use Rattle.path_conflicts.specs.Minutes.{holds_platform}
use Rattle.patterns.specs.Book.{pattern_at}
use Rattle.patterns.specs.Allowed.{list_of, full_lists}
use Rattle.pair_prices.specs.Case.{CaseRecord, IsCase}
use Rattle.pair_prices.specs.Plan.{IsFeasible, chosen, is_used}
use Rattle.pair_prices.specs.Fraction.{Fraction, choices, held_by_train, held_weight, holds_there, pattern_of, places}
use Rattle.plan_fractions.proofs.FullLists.{full_count, full_number}
use Rattle.plan_fractions.proofs.Meeting.{not_both}
use Rattle.plan_fractions.proofs.Sums.{NoTwo, once_most, one_left, sum_same}

-- 1 at the plan's number
abbrev pub weight_in : List ℕ → ℕ → ℕ → ℕ
weight_in plan t i = cond (eqb i (slice_index plan t)) 1 0

abbrev pub fraction_of : CaseRecord → List ℕ → Fraction
fraction_of c plan = record {
  scale = 1;
  weight = weight_in plan;
  «use» = λ p. cond (is_used c plan p) 1 0;
  table = λ p i j. weight_in plan p.first i * weight_in plan p.second j;
}

swap : (a b : Bool) → ◌≡◌ {A = ℕ} (cond a (cond b 1 0) 0) (cond b (cond a 1 0) 0)
swap true true = refl
swap true false = refl
swap false true = refl
swap false false = refl

left_true : (a b : Bool) → (a && b) ≡ true → a ≡ true
left_true true b e = refl
left_true false b e = e

right_true : (a b : Bool) → (a && b) ≡ true → b ≡ true
right_true true b e = e
right_true false b e = cc

any_number : (q : ℕ → Bool) (n k : ℕ) → k < n → q k ≡ true → list_any q (numbers n) ≡ true
any_number q n k h e =
    list_any_at q (numbers n) k 0 (omega (arith, length-range_with_len 0 n)) (ap q (get_or-range_with_len 0 n k 0 h ∙ plain k) ∙ e)
  where
    plain : (m : ℕ) → 0 + m ≡ m
    plain m = omega arith

module _ (c : CaseRecord) (plan : List ℕ) (case : IsCase c) (feasible : IsFeasible c plan) where
  -- of a sum over a train's choices the term at the plan's number is left
  pub choices_one : (t : ℕ) (f : ℕ → ℕ) → t < length c.book
      → sum_by (λ i. cond (eqb i (slice_index plan t)) (f i) 0) (choices (full_lists c.book) t) ≡ f (slice_index plan t)
  choices_one t f h =
      let there = feasible.fits.numbers t h in
      one_left f (slice_index plan t) (length (list_of (full_lists c.book) t) + 1) (omega (arith, there, full_count c.book t))

  pub places_one : (t : ℕ) (f : ℕ → ℕ) → t < length c.book
      → sum_by (λ i. cond (eqb i (slice_index plan t)) (f i) 0) (places (full_lists c.book) t) ≡ f (slice_index plan t)
  places_one t f h =
      let there = feasible.fits.numbers t h in
      one_left f (slice_index plan t) (length (list_of (full_lists c.book) t)) (omega (arith, there, full_count c.book t))

  -- the plan's number is its place
  pub place_is : (t : ℕ) → t < length c.book → slice_index (list_of (full_lists c.book) t) (slice_index plan t) ≡ slice_index plan t
  place_is t h = full_number c.book t (slice_index plan t) (feasible.fits.numbers t h)

  by_train : (p : ℕ) (m : ℤ) (t : ℕ) → t < length c.book
      → held_by_train c (full_lists c.book) (fraction_of c plan) p m t ≡ cond (holds_there c p m (chosen c plan t)) 1 0
  by_train p m t h =
      sum_same (λ i. cond (holds_there c p m (pattern_of c (full_lists c.book) t i)) (weight_in plan t i) 0)
      (λ i. cond (eqb i (slice_index plan t)) (cond (holds_there c p m (pattern_of c (full_lists c.book) t i)) 1 0) 0)
      (length (list_of (full_lists c.book) t))
      (λ i l. swap (holds_there c p m (pattern_of c (full_lists c.book) t i)) (eqb i (slice_index plan t)))
      ∙ places_one t (λ i. cond (holds_there c p m (pattern_of c (full_lists c.book) t i)) 1 0) h
      ∙ ap (λ n. cond (holds_there c p m (pattern_at c.book t n)) 1 0) (place_is t h)

  two_not : (p : ℕ) (m : ℤ) → NoTwo (λ t. holds_there c p m (chosen c plan t)) (length c.book)
  two_not p m = λ s t l h e f.
      let first = eqb-true (chosen c plan s).platform p (left_true ((chosen c plan s).platform == p) (holds_platform c.station (chosen c plan s) m) e) in
      let second = eqb-true (chosen c plan t).platform p (left_true ((chosen c plan t).platform == p) (holds_platform c.station (chosen c plan t) m) f) in
      not_both c plan case feasible s t m l h (first ∙ sym second)
      (right_true ((chosen c plan s).platform == p) (holds_platform c.station (chosen c plan s) m) e)
      (right_true ((chosen c plan t).platform == p) (holds_platform c.station (chosen c plan t) m) f)

  -- a platform is held by at most its use
  pub held_most : (p : ℕ) (m : ℤ) → held_weight c (full_lists c.book) (fraction_of c plan) p m ≤ cond (is_used c plan p) 1 0
  unfolding held_weight
  held_most p m =
      let same = sum_same (held_by_train c (full_lists c.book) (fraction_of c plan) p m)
      (λ t. cond (holds_there c p m (chosen c plan t)) 1 0) (length c.book) (by_train p m) in
      let most = once_most (λ t. holds_there c p m (chosen c plan t)) (length c.book) (is_used c plan p) (two_not p m)
      (λ t l e. any_number (λ s. (chosen c plan s).platform == p) (length c.book) t l
      (left_true ((chosen c plan t).platform == p) (holds_platform c.station (chosen c plan t) m) e)) in
      omega (arith, same, most)
