-- Ascending lists: their last entry is above all others, and what is among them is found by halves.
use Rattle.std.proofs.Common.{◌≡◌, ℕ, zero, suc, ◌+◌, ◌-◌, ◌<◌, ◌≤◌, ◌==◌, ◌&&◌, ◌||◌, ◌⊎◌, Bool, true, false, List, [], ◌∷◌, length, get_or, refl, sym, ap, ⊎_elim, inl, inr, ◌∙◌, arith, Some, Result, Ok, Err, ℤ, ◌<ℤ◌}
use Rattle.std.specs.Prelude.{slice_get, int_lt}
use Rattle.std.specs.List.{list_any}
use Rattle.std.specs.List.Sorted.{IsStrictlyIncreasing, IsBinarySearchResult}
use Rattle.std.specs.Ordering.{nat_cmp}
use Rattle.std.specs.Result.{is_ok}
use Rattle.std.proofs.lemmas.Int.{ints}
use Rattle.std.proofs.lemmas.Bool.{eqb-true}
use Rattle.std.proofs.lemmas.Bool.Decides.{nat_tests}
use Rattle.std.proofs.lemmas.List.Folds.{list_any_at}
use Rattle.std.proofs.lemmas.List.Kept.{AllPairs-from_increasing}
use Rattle.std.proofs.lemmas.List.Sorted.{searched}
use Rattle.leaf_bounds.specs.Listed.{Ascends}
use Rattle.leaf_bounds.proofs.PlaceLemmas.{ascends_tail}
use Rattle.proof_rules.specs.Fault.{is_above}

-- a test that holds wherever the rest does adds nothing
both_or_rest : (a b : Bool) → (b ≡ true → a ≡ true) → (a && b) ≡ b
both_or_rest true b h = refl
both_or_rest false true h = h refl
both_or_rest false false h = refl

front_passes : (a b : Bool) → (a && b) ≡ true → a ≡ true
front_passes true b h = refl
front_passes false b h = h

less_on : (a b c : ℤ) → a <ℤ b → int_lt b c ≡ true → int_lt a c ≡ true
less_on a b c h k = grind (arith, ints)

above_at : {X : Type 0} (key : X → ℤ) (xs : List X) (k : ℕ) (x y : X) → Ascends key xs → k + 1 ≡ length xs → slice_get xs k ≡ Some y
    → is_above key xs x ≡ int_lt (key y) (key x)
above_at key [] k x y up n e = absurd (omega (arith, n))
above_at {X} key (z ∷ []) zero x y up n e = one cc
  where
    and_true : (a : Bool) → (a && true) ≡ a
    and_true true = refl
    and_true false = refl

    one : z ≡ y → (int_lt (key z) (key x) && true) ≡ int_lt (key y) (key x)
    one h = and_true (int_lt (key z) (key x)) ∙ ap (λ (w : X). int_lt (key w) (key x)) h
above_at key (z ∷ []) (suc k) x y up n e = absurd (omega (arith, n))
above_at key (z ∷ w ∷ xs) zero x y up n e = absurd (omega (arith, n))
above_at {X} key (z ∷ w ∷ xs) (suc k) x y up n e = on (above_at key (w ∷ xs) k x y (ascends_tail key z (w ∷ xs) up) (omega (arith, n)) e)
  where
    on : is_above key (w ∷ xs) x ≡ int_lt (key y) (key x) → is_above key (z ∷ w ∷ xs) x ≡ int_lt (key y) (key x)
    on h = both_or_rest (int_lt (key z) (key x)) (is_above key (w ∷ xs) x)
        (λ t. less_on (key z) (key w) (key x) (up 0 z w refl refl) (front_passes (int_lt (key w) (key x)) (is_above key xs x) t)) ∙ h

-- what is above the last of an ascending list is above all of it
pub above_last : {X : Type 0} (key : X → ℤ) (xs : List X) (x y : X) → Ascends key xs → slice_get xs (length xs - 1) ≡ Some y
    → is_above key xs x ≡ int_lt (key y) (key x)
above_last key [] x y up e = absurd cc
above_last key (z ∷ xs) x y up e = above_at key (z ∷ xs) (length (z ∷ xs) - 1) x y up (omega arith) e

-- what is found by halves in an ascending list is what is among it
pub neq : (m n : ℕ) → (m ≡ n → ⊥) → (m == n) ≡ false
neq m n h = by (m == n) refl
  where
    by : (b : Bool) → (m == n) ≡ b → b ≡ false
    by true e = absurd (h (eqb-true m n e))
    by false e = refl

none_among : (ns : List ℕ) (n : ℕ) → ((k : ℕ) → k < length ns → get_or ns k 0 ≡ n → ⊥) → list_any (λ m. m == n) ns ≡ false
none_among [] n h = refl
none_among (m ∷ ns) n h = neither (m == n) (list_any (λ (k : ℕ). k == n) ns) (neq m n (h 0 (omega arith))) (none_among ns n (λ k l. h (suc k) (omega (arith, l))))
  where
    neither : (a b : Bool) → a ≡ false → b ≡ false → (a || b) ≡ false
    neither true b e f = e
    neither false b e f = f

order : (m n : ℕ) → (m < n) ⊎ (n ≤ m)
order zero zero = inr (omega arith)
order zero (suc n) = inl (omega arith)
order (suc m) zero = inr (omega arith)
order (suc m) (suc n) = ⊎_elim (λ (h : m < n). inl (omega (arith, h))) (λ (h : n ≤ m). inr (omega (arith, h))) (order m n)

rising : (ns : List ℕ) → IsStrictlyIncreasing ns → (i j : ℕ) → i ≤ j → j < length ns → get_or ns i 0 ≤ get_or ns j 0
rising ns up i j l m = ⊎_elim (λ (b : i < j). weaken (AllPairs-from_increasing ns up i j 0 b m)) (λ (b : j ≤ i). same b) (order i j)
  where
    weaken : get_or ns i 0 < get_or ns j 0 → get_or ns i 0 ≤ get_or ns j 0
    weaken h = omega (arith, h)

    same : j ≤ i → get_or ns i 0 ≤ get_or ns j 0
    same b = equal (omega (arith, l, b))
      where
        equal : i ≡ j → get_or ns i 0 ≤ get_or ns j 0
        equal e = omega (arith, ap (λ k. get_or ns k 0) e)

eqb-same : (m n : ℕ) → m ≡ n → (m == n) ≡ true
eqb-same m n e = by (m == n) refl
  where
    by : (b : Bool) → (m == n) ≡ b → b ≡ true
    by true f = refl
    by false f = absurd (differs e f)
      where
        differs : m ≡ n → (m == n) ≡ false → ⊥
        differs g h = grind (arith, nat_tests)

pub among : (ns : List ℕ) (n : ℕ) (r : Result ℕ ℕ) → IsStrictlyIncreasing ns → IsBinarySearchResult (λ y. nat_cmp y n) ns r
    → is_ok r ≡ list_any (λ m. m == n) ns
among ns n (Ok i) up h = found (searched ns n (Ok i) h (rising ns up))
  where
    found : (i < length ns) × (get_or ns i 0 ≡ n) → true ≡ list_any (λ m. m == n) ns
    found f = sym (list_any_at (λ m. m == n) ns i 0 f.0 (eqb-same (get_or ns i 0) n f.1))
among ns n (Err i) up h = missed (searched ns n (Err i) h (rising ns up))
  where
    missed : (i ≤ length ns) × ((k : ℕ) → k < i → get_or ns k 0 < n) × ((k : ℕ) → i ≤ k → k < length ns → n < get_or ns k 0)
        → false ≡ list_any (λ m. m == n) ns
    missed f = sym (none_among ns n (λ k l e. ⊎_elim (λ (b : k < i). beneath k (f.1 k b) e) (λ (b : i ≤ k). beyond k (f.2 k b l) e) (order k i)))
      where
        beneath : (k : ℕ) → get_or ns k 0 < n → get_or ns k 0 ≡ n → ⊥
        beneath k g e = omega (arith, g, e)

        beyond : (k : ℕ) → n < get_or ns k 0 → get_or ns k 0 ≡ n → ⊥
        beyond k g e = omega (arith, g, e)
