-- A platform that is within its use at arrivals is so at all minutes: weight comes only at arrivals.
use Rattle.std.proofs.Common.{◌≡◌, ℕ, zero, suc, ◌+◌, ◌<◌, ◌≤◌, ◌==◌, Bool, true, false, cond, ◌&&◌, length, refl, sym, ap, ◌∙◌, subst, arith, ℤ, pos, negsuc, neg_ℤ, ◌+ℤ◌, ◌-ℤ◌, ◌≤ℤ◌, ◌<ℤ◌, Option, None, Some}
use Rattle.std.specs.Prelude.{sum_by, int_le, int_lt, unsigned_abs, slice_index}
use borrow.Author.Tests.{eqb-true}
use Rattle.std.proofs.lemmas.Bool.Decides.{nat_tests}
use Rattle.std.proofs.lemmas.Int.{ints}
use Rattle.station.specs.Allowed.{numbers}
use Rattle.path_conflicts.specs.Minutes.{free_from}
use Rattle.patterns.specs.Allowed.{Lists, FitsBook, list_of}
use Rattle.patterns.specs.Sound.{IsSound}
use Rattle.pair_prices.specs.Case.{CaseRecord, IsCase}
use Rattle.pair_prices.specs.Fraction.{Fraction, places, pattern_of, holds_there, held_by_train, held_weight}
use Rattle.pair_prices.proofs.TopLemmas.{sum_numbers_more}
use Rattle.pair_prices.proofs.CaseLemmas.{sound_at}
use Rattle.clique_cuts.specs.Over.{IsWithinUse, ComesBefore}
use Rattle.clique_cuts.specs.Looked.{IsClearBefore}
use Rattle.clique_cuts.specs.Laws.{ArrivalsSuffice}

pub le_true : (a b : ℤ) → int_le a b ≡ true → a ≤ℤ b
le_true a b h = grind (arith, ints, nat_tests)

pub true_le : (a b : ℤ) → a ≤ℤ b → int_le a b ≡ true
true_le a b h = grind (arith, ints, nat_tests)

pub lt_true : (a b : ℤ) → int_lt a b ≡ true → a <ℤ b
lt_true a b h = grind (arith, ints, nat_tests)

pub true_lt : (a b : ℤ) → a <ℤ b → int_lt a b ≡ true
true_lt a b h = grind (arith, ints, nat_tests)

lt_earlier : (m n e : ℤ) → n +ℤ pos 1 ≡ m → int_lt m e ≡ true → int_lt n e ≡ true
lt_earlier m n e s h = let l = lt_true m e h in true_lt n e (omega (arith, ints))

lt_of_not : (a n : ℤ) → int_le a n ≡ false → int_lt n a ≡ true
lt_of_not a n h = grind (arith, ints, nat_tests)

point_by : (b p q r s t : Bool) (w : ℕ) → (q ≡ true → s ≡ true) → (r ≡ false → t ≡ true)
    → cond (b && (p && q)) w 0 ≤ cond (b && (r && s)) w 0 + cond (b && (p && t)) w 0
point_by false p q r s t w f g = omega arith
point_by true false q r s t w f g = omega arith
point_by true true false r s t w f g = omega arith
point_by true true true true s t w f g = rw (f refl) (omega arith)
point_by true true true false s t w f g = rw (g refl) (omega arith)

point : (b : Bool) (a e m n : ℤ) (w : ℕ) → n +ℤ pos 1 ≡ m
    → cond (b && (int_le a m && int_lt m e)) w 0 ≤ cond (b && (int_le a n && int_lt n e)) w 0 + cond (b && (int_le a m && int_lt n a)) w 0
point b a e m n w h = point_by b (int_le a m) (int_lt m e) (int_le a n) (int_lt n e) (int_lt n a) w (lt_earlier m n e h) (lt_of_not a n)

pub one_more : (f : ℕ → ℕ) (n : ℕ) → sum_by f (numbers (suc n)) ≡ sum_by f (numbers n) + f n
one_more f n = let e : suc n ≡ n + 1 = omega arith in ap (λ k. sum_by f (numbers k)) e ∙ sum_numbers_more f n

sum_step : (f g h : ℕ → ℕ) (n : ℕ) → ((i : ℕ) → f i ≤ g i + h i) → sum_by f (numbers n) ≤ sum_by g (numbers n) + sum_by h (numbers n)
sum_step f g h zero l = omega arith
sum_step f g h (suc n) l =
    let rest = sum_step f g h n l in
    let here = l n in
    let a = one_more f n in
    let b = one_more g n in
    let d = one_more h n in
    omega (arith, rest, here, a, b, d)

sum_none : (f : ℕ → ℕ) (n : ℕ) → ((i : ℕ) → i < n → f i ≡ 0) → sum_by f (numbers n) ≡ 0
sum_none f zero l = refl
sum_none f (suc n) l =
    let rest = sum_none f n (λ i k. l i (omega arith)) in
    let here = l n (omega arith) in
    let a = one_more f n in
    omega (arith, rest, here, a)

record SomeTerm (f : ℕ → ℕ) (n : ℕ) : Type 0 where
  place : ℕ
  there : place < n
  positive : 0 < f place

sum_some : (f : ℕ → ℕ) (n : ℕ) → 0 < sum_by f (numbers n) → SomeTerm f n
sum_some f zero l = absurd (omega arith)
sum_some f (suc n) l = by (λ h. sum_some f n h) (sum_by f (numbers n)) refl
  where
    by : (0 < sum_by f (numbers n) → SomeTerm f n) → (s : ℕ) → sum_by f (numbers n) ≡ s → SomeTerm f (suc n)
    by rest zero e = let a = one_more f n in record { place = n; there = omega arith; positive = omega (arith, l, a, e) }
    by rest (suc s) e =
        let found = rest (omega (arith, e)) in
        record { place = found.place; there = let t = found.there in omega arith; positive = found.positive }

comes_earlier : (o : Option ℤ) (m n : ℤ) → n +ℤ pos 1 ≡ m → ComesBefore m o → ComesBefore n o
comes_earlier None m n e h = h
comes_earlier (Some z) m n e h = omega (arith, ints)

record Starts (b : Bool) (a m n : ℤ) (w : ℕ) : Type 0 where
  on : b ≡ true
  now : a ≡ m
  weight : 0 < w

starts_by : (b p q : Bool) (w : ℕ) → 0 < cond (b && (p && q)) w 0 → (b ≡ true) × (p ≡ true) × (q ≡ true) × (0 < w)
starts_by false p q w h = absurd (omega arith)
starts_by true false q w h = absurd (omega arith)
starts_by true true false w h = absurd (omega arith)
starts_by true true true w h = (refl, refl, refl, h)

between : (a m n : ℤ) → n +ℤ pos 1 ≡ m → a ≤ℤ m → n <ℤ a → a ≡ m
between a m n e h k = omega (arith, ints)

starts : (b : Bool) (a m n : ℤ) (w : ℕ) → n +ℤ pos 1 ≡ m → 0 < cond (b && (int_le a m && int_lt n a)) w 0 → Starts b a m n w
starts b a m n w e h =
    let (on, late, early, weight) = starts_by b (int_le a m) (int_lt n a) w h in
    record { on = on; now = between a m n e (le_true a m late) (lt_true n a early); weight = weight }

too_early : (b q : Bool) (a m : ℤ) (w : ℕ) → m ≤ℤ neg_ℤ (pos 31) → neg_ℤ (pos 30) ≤ℤ a → cond (b && (int_le a m && q)) w 0 ≡ 0
too_early b q a m w h k = by b (int_le a m) refl
  where
    by : (b p : Bool) → int_le a m ≡ p → cond (b && (p && q)) w 0 ≡ 0
    by false p e = refl
    by true false e = refl
    by true true e = let l = le_true a m e in absurd (omega (arith, ints))

pub sound_in : (c : CaseRecord) → IsCase c → (lists : Lists) → FitsBook lists c.book → (t i : ℕ) → t < length c.book → i < length (list_of lists t)
    → IsSound c.station (pattern_of c lists t i)
sound_in c h lists fit t i tl il =
    let same = fit.trains in
    let there = fit.there t (omega (arith, same)) i 0 il in
    sound_at c h t (slice_index (list_of lists t) i) tl there

module _ (c : CaseRecord) (h : IsCase c) (lists : Lists) (fit : FitsBook lists c.book) (f : Fraction) (p : ℕ) where
  -- the weight that comes to the platform at minute m, after minute n
  abbrev start_at : ℤ → ℤ → ℕ → ℕ → ℕ
  start_at m n t i =
      cond (((pattern_of c lists t i).platform == p) && (int_le (pattern_of c lists t i).arrive m && int_lt n (pattern_of c lists t i).arrive))
      (f.weight t i) 0

  abbrev start_by : ℤ → ℤ → ℕ → ℕ
  start_by m n t = sum_by (start_at m n t) (places lists t)

  abbrev start_all : ℤ → ℤ → ℕ
  start_all m n = sum_by (start_by m n) (numbers (length c.book))

  held_step : (m n : ℤ) → n +ℤ pos 1 ≡ m → held_weight c lists f p m ≤ held_weight c lists f p n + start_all m n
  unfolding held_weight
  held_step m n e =
      sum_step (held_by_train c lists f p m) (held_by_train c lists f p n) (start_by m n) (length c.book)
      (λ t. sum_step
      (λ i. cond (holds_there c p m (pattern_of c lists t i)) (f.weight t i) 0)
      (λ i. cond (holds_there c p n (pattern_of c lists t i)) (f.weight t i) 0)
      (start_at m n t) (length (list_of lists t))
      (λ i. point ((pattern_of c lists t i).platform == p) (pattern_of c lists t i).arrive (free_from c.station (pattern_of c lists t i)) m n (f.weight t i) e))

  held_early : (m : ℤ) → m ≤ℤ neg_ℤ (pos 31) → held_weight c lists f p m ≡ 0
  unfolding held_weight
  held_early m l =
      sum_none (held_by_train c lists f p m) (length c.book)
      (λ t tl. sum_none (λ i. cond (holds_there c p m (pattern_of c lists t i)) (f.weight t i) 0) (length (list_of lists t))
      (λ i il. too_early ((pattern_of c lists t i).platform == p) (int_lt m (free_from c.station (pattern_of c lists t i)))
      (pattern_of c lists t i).arrive m (f.weight t i) l (sound_in c h lists fit t i tl il).arrive_least))

  module _ (o : Option ℤ) (clear : (t i : ℕ) → t < length c.book → i < length (list_of lists t) → IsClearBefore c lists f p t i o) where
    at_start : (m n : ℤ) → n +ℤ pos 1 ≡ m → ComesBefore m o → 0 < start_all m n → IsWithinUse c lists f p m
    at_start m n e before some =
        let train = sum_some (start_by m n) (length c.book) some in
        let place = sum_some (start_at m n train.place) (length (list_of lists train.place)) train.positive in
        let x = pattern_of c lists train.place place.place in
        let s = starts (x.platform == p) x.arrive m n (f.weight train.place place.place) e place.positive in
        let P : ℤ → Type 0 = λ z. IsWithinUse c lists f p z in
        let Q : ℤ → Type 0 = λ z. ComesBefore z o in
        subst P s.now
        (clear train.place place.place train.there place.there (subst Q (sym s.now) before) s.weight (eqb-true x.platform p s.on))

    descend : (k : ℕ) (m : ℤ) → m ≤ℤ (pos k -ℤ pos 31) → ComesBefore m o → IsWithinUse c lists f p m
    descend zero m l before = let none = held_early m (omega (arith, ints)) in omega (arith, none)
    descend (suc k) m l before =
        let n = m -ℤ pos 1 in
        let e : n +ℤ pos 1 ≡ m = omega (arith, ints) in
        let earlier = descend k n (omega (arith, ints)) (comes_earlier o m n e before) in
        let step = held_step m n e in
        by n e earlier step (start_all m n) refl
      where
        by : (n : ℤ) → n +ℤ pos 1 ≡ m → IsWithinUse c lists f p n → held_weight c lists f p m ≤ held_weight c lists f p n + start_all m n
            → (s : ℕ) → start_all m n ≡ s → IsWithinUse c lists f p m
        by n e earlier step zero none = omega (arith, earlier, step, none)
        by n e earlier step (suc s) some = at_start m n e before (omega (arith, some))

    pub clear_before : (m : ℤ) → ComesBefore m o → IsWithinUse c lists f p m
    clear_before m before = descend (unsigned_abs m + 31) m (reach m) before
      where
        reach : (z : ℤ) → z ≤ℤ (pos (unsigned_abs z + 31) -ℤ pos 31)
        reach (pos x) = omega (arith, ints)
        reach (negsuc x) = omega (arith, ints)

pub arrivals : ArrivalsSuffice
arrivals c h lists fit f p within m = clear_before c h lists fit f p None (λ t i tl il _ _ _. within t i tl il) m tt
