-- What is listed at a key, in the entries of a pair and in the entries that are left.
use Rattle.std.proofs.Common.{◌≡◌, ℕ, ◌==◌, ◌&&◌, ◌||◌, Bool, true, false, cond, not, List, [], ◌∷◌, map, get_or, refl, ap, ◌∙◌, arith, ℤ, pos, ◌+ℤ◌, ◌<ℤ◌}
use Rattle.std.specs.Prelude.{Contains}
use Rattle.std.specs.List.{filter, list_any}
use Rattle.std.proofs.lemmas.Int.{ints}
use Rattle.std.proofs.lemmas.Bool.{eq-eqb, eqb-true}
use Rattle.std.proofs.lemmas.List.Folds.{list_any_at}
use Rattle.station.proofs.Lists.{Every, Rising}
use Rattle.patterns.specs.Allowed.{Lists, list_of}
use Rattle.pair_prices.specs.Trains.{TrainPair}
use Rattle.leaf_bounds.specs.declared.number.PairValue.{PairValue}
use Rattle.leaf_bounds.specs.Total.{only_if, total}
use Rattle.leaf_bounds.specs.Listed.{IsSmall, is_at, number_listed, pair_key, pair_listed}
use Rattle.leaf_bounds.specs.Expansion.{in_list}
use Rattle.leaf_bounds.specs.Places.{ArePairValues}
use Rattle.leaf_bounds.specs.Sharing.{entries_of, is_pair_of, number_entry}
use Rattle.leaf_bounds.proofs.BoundedLemmas.{bounded}

-- ---- a sum of which one term is left at most

none_passes : {X : Type 0} (test : X → Bool) (value : X → ℤ) (xs : List X) → Every (λ x. test x ≡ true → ⊥) xs
    → total (λ x. only_if (test x) (value x)) xs ≡ pos 0
none_passes test value [] h = refl
none_passes test value (x ∷ xs) h = by_test (test x) refl (none_passes test value xs h.1)
  where
    by_test : (b : Bool) → test x ≡ b → total (λ y. only_if (test y) (value y)) xs ≡ pos 0
        → only_if b (value x) +ℤ total (λ y. only_if (test y) (value y)) xs ≡ pos 0
    by_test true e rest = absurd (h.0 e)
    by_test false e rest = omega (arith, ints, rest)

others_fail : {X : Type 0} (test : X → Bool) (x : X) → test x ≡ true → (ys : List X) → Every (λ y. test x ≡ true → test y ≡ true → ⊥) ys
    → Every (λ y. test y ≡ true → ⊥) ys
others_fail test x e [] g = tt
others_fail test x e (y ∷ ys) g = (g.0 e, others_fail test x e ys g.1)

one_by : {X : Type 0} (test : X → Bool) (value : X → ℤ) (a : ℤ) (x : X) (xs : List X) (b : Bool) → test x ≡ b
    → (test x ≡ true → value x ≡ a) → Every (λ y. test x ≡ true → test y ≡ true → ⊥) xs
    → total (λ y. only_if (test y) (value y)) xs ≡ only_if (list_any test xs) a
    → only_if b (value x) +ℤ total (λ y. only_if (test y) (value y)) xs ≡ only_if (b || list_any test xs) a
one_by test value a x xs true e v h rest =
    let here = v e in
    let others = none_passes test value xs (others_fail test x e xs h) in
    omega (arith, ints, here, others)
one_by test value a x xs false e v h rest = omega (arith, ints, rest)

-- Where no two elements pass, and one that passes adds this number, the sum is this number or nothing.
pub one_of : {X : Type 0} (test : X → Bool) (value : X → ℤ) (a : ℤ) (xs : List X) → Every (λ x. test x ≡ true → value x ≡ a) xs
    → Rising (λ x y. test x ≡ true → test y ≡ true → ⊥) xs → total (λ x. only_if (test x) (value x)) xs ≡ only_if (list_any test xs) a
one_of test value a [] v h = refl
one_of test value a (x ∷ xs) v h = one_by test value a x xs (test x) refl v.0 h.0 (one_of test value a xs v.1 h.1)

-- ---- the entries of a pair

entries_by : (p : TrainPair) (i : ℕ) (x : PairValue) (xs : List PairValue) (b : Bool)
    → number_listed (map number_entry (filter (is_pair_of p) xs)) i ≡ pair_listed xs p i
    → number_listed (map number_entry (cond b (x ∷ filter (is_pair_of p) xs) (filter (is_pair_of p) xs))) i
    ≡ only_if (b && (x.number == i)) x.value +ℤ pair_listed xs p i
entries_by p i x xs true rest = ap (λ (z : ℤ). only_if (x.number == i) x.value +ℤ z) rest
entries_by p i x xs false rest = omega (arith, ints, rest)

pub entries_listed : (p : TrainPair) (i : ℕ) (xs : List PairValue) → number_listed (entries_of p xs) i ≡ pair_listed xs p i
unfolding entries_of
entries_listed p i [] = refl
entries_listed p i (x ∷ xs) = entries_by p i x xs (is_pair_of p x) (entries_listed p i xs)

-- ---- the entries that are left

left_by : (u : Bool) (v t f : ℤ) (b d : Bool) → (d ≡ true → b ≡ not u) → f ≡ only_if (not u) t
    → cond b (only_if d v +ℤ f) f ≡ only_if (not u) (only_if d v +ℤ t)
left_by true v t f true true h rest = let e = h refl in cc
left_by false v t f true true h rest = omega (arith, ints, rest)
left_by true v t f true false h rest = omega (arith, ints, rest)
left_by false v t f true false h rest = omega (arith, ints, rest)
left_by true v t f false true h rest = rest
left_by false v t f false true h rest = let e = h refl in cc
left_by true v t f false false h rest = rest
left_by false v t f false false h rest = omega (arith, ints, rest)

kept_total : (f : PairValue → ℤ) (x : PairValue) (xs : List PairValue) (b : Bool) → total f (cond b (x ∷ xs) xs) ≡ cond b (f x +ℤ total f xs) (total f xs)
kept_total f x xs true = refl
kept_total f x xs false = refl

-- what is left at a key of which all entries stay or all go
pub left_listed : (keep : PairValue → Bool) (u : Bool) (p : TrainPair) (i : ℕ) (xs : List PairValue)
    → ((x : PairValue) → is_at p i x ≡ true → keep x ≡ not u) → pair_listed (filter keep xs) p i ≡ only_if (not u) (pair_listed xs p i)
left_listed keep true p i [] h = refl
left_listed keep false p i [] h = refl
left_listed keep u p i (x ∷ xs) h =
    kept_total (λ y. only_if (is_at p i y) y.value) x (filter keep xs) (keep x)
    ∙ left_by u x.value (pair_listed xs p i) (pair_listed (filter keep xs) p i) (keep x) (is_at p i x) (h x) (left_listed keep u p i xs h)

-- ---- an entry at a key

pub record IsAt (p : TrainPair) (i : ℕ) (x : PairValue) : Type 0 where
  pub first : x.first ≡ p.first
  pub second : x.second ≡ p.second
  pub number : x.number ≡ i

pub both_true : (a b : Bool) → (a && b) ≡ true → (a ≡ true) × (b ≡ true)
both_true true true e = (refl, refl)
both_true true false e = cc
both_true false b e = cc

pub at_key : (p : TrainPair) (i : ℕ) (x : PairValue) → is_at p i x ≡ true → IsAt p i x
at_key p i x e =
    let a = both_true (x.first == p.first && x.second == p.second) (x.number == i) e in
    let b = both_true (x.first == p.first) (x.second == p.second) a.0 in
    record { first = eqb-true x.first p.first b.0; second = eqb-true x.second p.second b.1; number = eqb-true x.number i a.1 }

member_in : (lists : Lists) (t i : ℕ) → Contains (list_of lists t) i → in_list lists t i ≡ true
member_in lists t i h = list_any_at (λ n. n == i) (list_of lists t) h.0 i h.1 (eq-eqb (get_or (list_of lists t) h.0 i) i h.2)

none_listed : (p : TrainPair) (i : ℕ) (xs : List PairValue) → Every (λ x. is_at p i x ≡ true → ⊥) xs → pair_listed xs p i ≡ pos 0
none_listed p i xs h = none_passes (λ x. is_at p i x) (λ x. x.value) xs h

-- at a number that isn't in the train's list, nothing is listed
pub outside : (lists : Lists) (train : PairValue → ℕ) (t : ℕ) (p : TrainPair) (i : ℕ) (xs : List PairValue)
    → ((x : PairValue) → IsAt p i x → train x ≡ t) → Every (λ x. Contains (list_of lists (train x)) x.number) xs
    → in_list lists t i ≡ false → pair_listed xs p i ≡ pos 0
outside lists train t p i xs same h e = none_listed p i xs (each xs h)
  where
    each : (ys : List PairValue) → Every (λ x. Contains (list_of lists (train x)) x.number) ys → Every (λ x. is_at p i x ≡ true → ⊥) ys
    each [] g = tt
    each (y ∷ ys) g = (
      (λ a.
          let k = at_key p i y a in
          let there = member_in lists (train y) y.number g.0 in
          let own = same y k in
          let number = k.number in
          let moved : in_list lists (train y) y.number ≡ in_list lists t i = (λ j. in_list lists (own j) (number j)) in
          cc),
      each ys g.1,
    )

-- What is listed at a key is one number, or none.
pub listed_small : (p : TrainPair) (i : ℕ) (xs : List PairValue) → ArePairValues xs → IsSmall (pair_listed xs p i)
listed_small p i xs h =
    let most = bounded (λ x. pos (pair_key x)) (λ x. pos 0) (λ x. x.value) (is_at p i) (pos 1) up 1 xs h.ascends
    (λ k x e. (h.each k x e).value) (λ k x e t. record { below = omega (arith, ints); above = omega (arith, ints) }) in
    omega (arith, most)
  where
    up : (x y : PairValue) → is_at p i x ≡ true → is_at p i y ≡ true → pos (pair_key x) <ℤ pos (pair_key y) → pos 0 <ℤ pos 0
    up x y a b l =
        let k = at_key p i x a in
        let m = at_key p i y b in
        let e = k.first in
        let f = k.second in
        let g = k.number in
        let n = m.first in
        let o = m.second in
        let q = m.number in
        absurd (omega (arith, ints, l, e, f, g, n, o, q))
