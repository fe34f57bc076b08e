-- Lists whose keys ascend: by place and by recursion, filtered, and joined of parts.
use Rattle.std.proofs.Common.{ℕ, zero, suc, ◌+◌, ◌<◌, ◌≤◌, Bool, true, false, cond, List, [], ◌∷◌, refl, arith, ℤ, ◌≤ℤ◌, ◌<ℤ◌}
use Rattle.std.specs.List.{filter, flat_map, range_with_len}
use Rattle.std.proofs.lemmas.Int.{ints}
use Rattle.station.proofs.Lists.{Every, Rising, every-at, every-append, every-filter, every-weaker, rising-append, rising-at, rising-filter}
use Rattle.leaf_bounds.specs.Listed.{Ascends}
use Rattle.leaf_bounds.proofs.PlaceLemmas.{ascends_tail, later}
use Rattle.leaf_bounds.proofs.BoundedLemmas.{Each}

abbrev pub Before : {X : Type 0} → (X → ℤ) → X → X → Type 0
Before key x y = key x <ℤ key y

pub every_from : {X : Type 0} (P : X → Type 0) (xs : List X) → Each P xs → Every P xs
every_from P [] h = tt
every_from P (x ∷ xs) h = (h 0 x refl, every_from P xs (λ k y e. h (suc k) y e))

pub rising_from : {X : Type 0} (key : X → ℤ) (xs : List X) → Ascends key xs → Rising (Before key) xs
rising_from key [] h = tt
rising_from key (x ∷ xs) h = (every_from (λ y. key x <ℤ key y) xs (later key x xs h), rising_from key xs (ascends_tail key x xs h))

pub ascends_from : {X : Type 0} (key : X → ℤ) (xs : List X) → Rising (Before key) xs → Ascends key xs
ascends_from key xs h = λ i x y e f. rising-at (Before key) xs h i (i + 1) x y (omega arith) e f

-- a part of a list
pub ascends_filter : {X : Type 0} (key : X → ℤ) (test : X → Bool) (xs : List X) → Ascends key xs → Ascends key (filter test xs)
ascends_filter key test xs h = ascends_from key (filter test xs) (rising-filter (Before key) test xs (rising_from key xs h))

pub each_filter : {X : Type 0} (P : X → Type 0) (test : X → Bool) (xs : List X) → Each P xs → Each P (filter test xs)
each_filter P test xs h = every-at P (filter test xs) (every-filter P test xs (every_from P xs h))

-- an element that may be left out
pub every_single : {X : Type 0} (P : X → Type 0) (b : Bool) (x : X) → P x → Every P (cond b [] (x ∷ []))
every_single P true x h = tt
every_single P false x h = (h, tt)

pub rising_single : {X : Type 0} (key : X → ℤ) (b : Bool) (x : X) → Rising (Before key) (cond b [] (x ∷ []))
rising_single key true x = tt
rising_single key false x = (tt, tt)

-- all elements of all parts
pub every_range : {X : Type 0} (P : X → Type 0) (g : ℕ → List X) (a m : ℕ) → ((k : ℕ) → a ≤ k → k < a + m → Every P (g k))
    → Every P (flat_map g (range_with_len a m))
every_range P g a zero h = tt
every_range P g a (suc m) h =
    every-append P (g a) (flat_map g (range_with_len (a + 1) m)) (h a (omega arith) (omega arith))
    (every_range P g (a + 1) m (λ k l n. h k (omega arith) (omega arith)))

across : {X : Type 0} (key : X → ℤ) (mid : ℤ) (xs ys : List X) → Every (λ x. key x <ℤ mid) xs → Every (λ y. mid ≤ℤ key y) ys
    → Every (λ x. Every (Before key x) ys) xs
across key mid xs ys h g =
    every-weaker (λ x. key x <ℤ mid) (λ x. Every (Before key x) ys)
    (λ x l. every-weaker (λ y. mid ≤ℤ key y) (Before key x) (λ y m. omega (arith, ints, l, m)) ys g) xs h

-- Parts of which each ascends, and ends before the next begins, ascend together.
pub rising_range : {X : Type 0} (key : X → ℤ) (low : ℕ → ℤ) (g : ℕ → List X) (a m : ℕ)
    → ((k : ℕ) → a ≤ k → k < a + m → Rising (Before key) (g k))
    → ((k j : ℕ) → a ≤ k → k ≤ j → j < a + m → Every (λ x. low k ≤ℤ key x) (g j))
    → ((k : ℕ) → a ≤ k → k < a + m → Every (λ x. key x <ℤ low (k + 1)) (g k))
    → Rising (Before key) (flat_map g (range_with_len a m))
rising_range key low g a zero r h l = tt
rising_range key low g a (suc m) r h l =
    rising-append (Before key) (g a) (flat_map g (range_with_len (a + 1) m)) (r a (omega arith) (omega arith))
    (rising_range key low g (a + 1) m (λ k i n. r k (omega arith) (omega arith)) (λ k j i n o. h k j (omega arith) n (omega arith))
    (λ k i n. l k (omega arith) (omega arith)))
    (across key (low (a + 1)) (g a) (flat_map g (range_with_len (a + 1) m)) (l a (omega arith) (omega arith))
    (every_range (λ x. low (a + 1) ≤ℤ key x) g (a + 1) m (λ k i n. h (a + 1) k (omega arith) i (omega arith))))
