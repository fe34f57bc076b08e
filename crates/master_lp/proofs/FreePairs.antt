-- A cut on two trains that cost nothing together is worth at most nothing.
use Rattle.std.proofs.Common.{◌≡◌, ℕ, zero, suc, ◌+◌, ◌<◌, ◌≤◌, ◌⊎◌, inl, inr, Bool, true, false, List, [], ◌∷◌, length, refl, sym, ap, ◌∙◌, subst, arith, ℤ, pos, neg_ℤ, ◌+ℤ◌, ◌*ℤ◌, ◌≤ℤ◌}
use Rattle.std.specs.Prelude.{slice_index, int_le}
use Rattle.std.specs.List.{All}
use Rattle.std.proofs.lemmas.Bool.{cases_lt}
use Rattle.std.proofs.lemmas.Bool.Decides.{nat_tests}
use Rattle.std.proofs.lemmas.Int.{ints}
use Rattle.std.proofs.lemmas.List.Elements.{All-get_or}
use Rattle.std.proofs.lemmas.List.{length-append}
use Rattle.std.proofs.lemmas.Option.{get_or_from_slice_get}
use Rattle.ratio.proofs.Ring.{add-mul_ℤ, mul-add_ℤ, mul_comm_ℤ}
use Rattle.exact_lp.proofs.Order.{mul_le_ℤ}
use Rattle.transport.specs.Coupling.{at, total as weight_total, weighted}
use Rattle.transport.proofs.Signed.{total_is}
use Rattle.leaf_bounds.specs.Total.{total}
use Rattle.leaf_bounds.proofs.Totals.{mul-none_ℤ, total_numbers_le}
use Rattle.patterns.specs.declared.weights.Weights.{Weights}
use Rattle.patterns.specs.Allowed.{FitsBook, Lists, list_of}
use Rattle.patterns.specs.Book.{offers_of}
use Rattle.patterns.specs.Weights.{FitsLists, choice_weights, left_of, weights_of}
use Rattle.pair_prices.specs.Case.{CaseRecord}
use Rattle.pair_prices.specs.Fraction.{left_out}
use Rattle.pair_classes.specs.Meetings.{AreFree}
use Rattle.pair_cuts.specs.declared.cut.PairCut.{PairCut}
use Rattle.pair_cuts.specs.Cut.{IsPairCut, alphas, betas, pair_costs, worth}
use Rattle.pair_cuts.proofs.Limits.{cost_inside, cost_of_left_column, cost_of_left_row}
use Rattle.station_rows.proofs.Weighed.{total_places}
use Rattle.master_lp.proofs.WeakDuality.{products_total}

true_le : (a b : ℤ) → int_le a b ≡ true → a ≤ℤ b
true_le a b h = grind (arith, ints, nat_tests)

false_lt : (a b : ℤ) → int_le a b ≡ false → b ≤ℤ a
false_lt a b h = grind (arith, ints, nat_tests)

-- the place of a greatest number
record IsBest (xs : List ℤ) (k : ℕ) : Type 0 where
  inside : k < length xs
  most : (i : ℕ) → i < length xs → at xs i ≤ℤ at xs k

best_one : (x : ℤ) (i : ℕ) → i < length (x ∷ []) → at (x ∷ []) i ≤ℤ x
best_one x zero l = omega (arith, ints)
best_one x (suc i) l = absurd (omega (arith, l))

best_later : (x : ℤ) (ys : List ℤ) (k : ℕ) → IsBest ys k → x ≤ℤ at ys k → (i : ℕ) → i < length (x ∷ ys) → at (x ∷ ys) i ≤ℤ at ys k
best_later x ys k is l zero e = l
best_later x ys k is l (suc i) e = is.most i (omega (arith, e))

best_first : (x : ℤ) (ys : List ℤ) (k : ℕ) → IsBest ys k → at ys k ≤ℤ x → (i : ℕ) → i < length (x ∷ ys) → at (x ∷ ys) i ≤ℤ x
best_first x ys k is g zero e = omega (arith, ints)
best_first x ys k is g (suc i) e = let a = is.most i (omega (arith, e)) in omega (arith, ints, a, g)

best_of_two : (x : ℤ) (ys : List ℤ) (k : ℕ) → IsBest ys k → (b : Bool) → int_le x (at ys k) ≡ b → (m : ℕ) × IsBest (x ∷ ys) m
best_of_two x ys k is true e = (
  suc k,
  record {
    inside = let h = is.inside in omega (arith, h);
    most = best_later x ys k is (true_le x (at ys k) e);
  },
)
best_of_two x ys k is false e = (
  0,
  record {
    inside = omega arith;
    most = best_first x ys k is (let g = false_lt x (at ys k) e in omega (arith, ints, g));
  },
)

best : (xs : List ℤ) → 0 < length xs → (k : ℕ) × IsBest xs k
best [] h = absurd (omega (arith, h))
best (x ∷ []) h = (0, record { inside = omega arith; most = best_one x })
best (x ∷ y ∷ ys) h = next (best (y ∷ ys) (omega arith))
  where
    next : (k : ℕ) × IsBest (y ∷ ys) k → (k : ℕ) × IsBest (x ∷ y ∷ ys) k
    next (k, is) = best_of_two x (y ∷ ys) k is (int_le x (at (y ∷ ys) k)) refl

-- a number times each weight
scaled_total : (a : ℤ) (ws : List ℤ) → total (λ w. a *ℤ w) ws ≡ a *ℤ weight_total ws
scaled_total a [] = sym (mul-none_ℤ a)
scaled_total a (w ∷ ws) = ap (λ (z : ℤ). a *ℤ w +ℤ z) (scaled_total a ws) ∙ sym (mul-add_ℤ a w (weight_total ws))

-- numbers of at most a are worth at most a times the whole weight
weighted_most : (xs ws : List ℤ) (a : ℤ) → ((k : ℕ) → k < length ws → at xs k ≤ℤ a) → All (λ w. pos 0 ≤ℤ w) ws → weighted xs ws ≤ℤ (a *ℤ weight_total ws)
weighted_most xs ws a most least =
    let all = products_total xs ws (length ws) in
    let below = total_numbers_le (λ k. at xs k *ℤ at ws k) (λ k. a *ℤ at ws k) (length ws)
    (λ k h. mul_le_ℤ (at xs k) a (at ws k) (All-get_or (λ (w : ℤ). pos 0 ≤ℤ w) ws k (pos 0) h least) (most k h)) in
    let places = total_places (λ k. a *ℤ at ws k) (λ w. a *ℤ w) ws (λ k w e. ap (λ (z : ℤ). a *ℤ z) (get_or_from_slice_get ws k w (pos 0) e)) in
    let sum = scaled_total a ws in
    omega (arith, ints, all, below, places, sum)

neg_times : (a s : ℤ) → a *ℤ s +ℤ neg_ℤ a *ℤ s ≡ pos 0
neg_times a s =
    sym (add-mul_ℤ a (neg_ℤ a) s)
    ∙ ap (λ (z : ℤ). z *ℤ s) (none a)
    ∙ mul_comm_ℤ (pos 0) s ∙ mul-none_ℤ s
  where
    none : (b : ℤ) → b +ℤ neg_ℤ b ≡ pos 0
    none b = omega (arith, ints)

-- numbers that are together at most 0 everywhere are worth at most 0 at weights of one total
pub worth_none : (xs ys left right : List ℤ) (n m : ℕ) → length xs ≡ n + 1 → length left ≡ n + 1 → length right ≡ m + 1
    → ((i j : ℕ) → i ≤ n → j ≤ m → (at xs i +ℤ at ys j) ≤ℤ pos 0)
    → All (λ w. pos 0 ≤ℤ w) left → All (λ w. pos 0 ≤ℤ w) right → weight_total left ≡ weight_total right
    → (weighted xs left +ℤ weighted ys right) ≤ℤ pos 0
worth_none xs ys left right n m long left_long right_long below least_left least_right same = by (best xs (omega (arith, long)))
  where
    by : (k : ℕ) × IsBest xs k → (weighted xs left +ℤ weighted ys right) ≤ℤ pos 0
    by (k, is) =
        let inside = is.inside in
        let one = weighted_most xs left (at xs k) (λ i h. is.most i (omega (arith, h, long, left_long))) least_left in
        let two = weighted_most ys right (neg_ℤ (at xs k))
        (λ j h. let e = below k j (omega (arith, inside, long)) (omega (arith, h, right_long)) in omega (arith, ints, e)) least_right in
        let none = neg_times (at xs k) (weight_total left) in
        let again : neg_ℤ (at xs k) *ℤ weight_total right ≡ neg_ℤ (at xs k) *ℤ weight_total left = ap (λ (z : ℤ). neg_ℤ (at xs k) *ℤ z) (sym same) in
        omega (arith, ints, one, two, none, again)

pub choices_long : (lists : Lists) (w : Weights) → FitsLists lists w → (train : ℕ) → train < length lists
    → length (choice_weights w train) ≡ left_out lists train + 1
choices_long lists w fits train h =
    let a = length-append (weights_of w train) (left_of w train ∷ []) in
    let b = fits.lengths train h in
    omega (arith, a, b)

module _ (c : CaseRecord) (lists : Lists) (fits_book : FitsBook lists c.book) (w : Weights) (fits : FitsLists lists w)
    (s t : ℕ) (order : s < t) (there : t < length lists) (free : AreFree c s t) where
  first_there : s < length lists
  first_there = omega (arith, order, there)

  listed : (train i : ℕ) → train < length lists → i < left_out lists train → slice_index (list_of lists train) i < length (offers_of c.book train)
  listed train i h k = All-get_or (λ (n : ℕ). n < length (offers_of c.book train)) (list_of lists train) i 0 k (fits_book.there train h)

  free_cost : (i j : ℕ) → pair_costs c lists s t i j ≡ 0
  free_cost i j = row (cases_lt i (left_out lists s))
    where
      column : i < left_out lists s → (j < left_out lists t) ⊎ (left_out lists t ≤ j) → pair_costs c lists s t i j ≡ 0
      column h (inl k) =
          sym (cost_inside c lists s t i j h k)
          ∙ free (slice_index (list_of lists s) i) (slice_index (list_of lists t) j) (listed s i first_there h) (listed t j there k)
      column h (inr k) = cost_of_left_column c lists s t i j k

      row : (i < left_out lists s) ⊎ (left_out lists s ≤ i) → pair_costs c lists s t i j ≡ 0
      row (inl h) = column h (cases_lt j (left_out lists t))
      row (inr h) = cost_of_left_row c lists s t i j h

  total_is_scale : (train : ℕ) → train < length lists → weight_total (choice_weights w train) ≡ w.scale
  total_is_scale train h = total_is (choice_weights w train) (fits.positive train h) ∙ fits.totals train h

  pub free_worth : (cut : PairCut) → IsPairCut c lists s t cut → worth w s t cut ≤ℤ pos 0
  free_worth cut is =
      let a = length-append cut.alpha (cut.alpha_left ∷ []) in
      let b = is.alpha in
      worth_none (alphas cut) (betas cut) (choice_weights w s) (choice_weights w t) (left_out lists s) (left_out lists t)
      (omega (arith, a, b)) (choices_long lists w fits s first_there) (choices_long lists w fits t there)
      (λ i j h k.
      let P : ℕ → Type 0 = λ n. (at (alphas cut) i +ℤ at (betas cut) j) ≤ℤ pos n in
      subst P (free_cost i j) (is.holds i j h k))
      (fits.positive s first_there) (fits.positive t there) (total_is_scale s first_there ∙ sym (total_is_scale t there))
