-- Sums over ascending lists are bounded, and so are those over the rest of a list.
use Rattle.std.proofs.Common.{◌≡◌, ℕ, zero, suc, ◌+◌, ◌*◌, ◌<◌, ◌≤◌, ◌==◌, ◌&&◌, Bool, true, false, List, [], ◌∷◌, length, get_or, drop, refl, sym, ap, ◌∙◌, arith, Some, ℤ, pos, ◌+ℤ◌, ◌≤ℤ◌, ◌<ℤ◌, drop-cons}
use Rattle.std.specs.Prelude.{slice_get, unsigned_abs, ◌^◌}
use Rattle.std.proofs.lemmas.Int.{ints}
use Rattle.std.proofs.lemmas.Bool.{eqb-true}
use Rattle.std.proofs.lemmas.List.{drop_all}
use Rattle.leaf_bounds.specs.declared.number.TrainValue.{TrainValue}
use Rattle.leaf_bounds.specs.declared.number.PairValue.{PairValue}
use Rattle.leaf_bounds.specs.declared.leaf.Leaf.{Leaf}
use Rattle.leaf_bounds.specs.Total.{only_if, total}
use Rattle.leaf_bounds.specs.Listed.{Ascends, IsSmall, IsPairValue, pair_key}
use Rattle.leaf_bounds.specs.Places.{ArePairValues, train_value}
use Rattle.leaf_bounds.specs.Sides.{train_on, value_on}
use Rattle.leaf_bounds.specs.declared.potentials.Side.{Side}
use Rattle.leaf_bounds.specs.declared.potentials.Side.TheVariants.{First, Second}
use Rattle.leaf_bounds.proofs.PlaceLemmas.{ascends_tail, later}

pub slice_get-drop : {X : Type 0} (k j : ℕ) (xs : List X) → slice_get (drop k xs) j ≡ slice_get xs (k + j)
slice_get-drop zero j xs = ap (slice_get xs) (same j)
  where
    same : (j : ℕ) → j ≡ 0 + j
    same j = omega arith
slice_get-drop (suc k) j [] = refl
slice_get-drop (suc k) j (x ∷ xs) = slice_get-drop k j xs ∙ ap (slice_get (x ∷ xs)) (next k j)
  where
    next : (k j : ℕ) → suc (k + j) ≡ suc k + j
    next k j = omega arith

pub ascends_drop : {X : Type 0} (key : X → ℤ) (k : ℕ) (xs : List X) → Ascends key xs → Ascends key (drop k xs)
ascends_drop key k xs h = λ i x y e f.
    h (k + i) x y (sym (slice_get-drop k i xs) ∙ e) (ap (slice_get xs) (next k i) ∙ sym (slice_get-drop k (i + 1) xs) ∙ f)
  where
    next : (k i : ℕ) → k + i + 1 ≡ k + (i + 1)
    next k i = omega arith

-- what holds of each entry
abbrev pub Each : {X : Type 0} → (X → Type 0) → List X → Type 0
Each {X} P xs = (k : ℕ) (x : X) → slice_get xs k ≡ Some x → P x

pub each_drop : {X : Type 0} (P : X → Type 0) (k : ℕ) (xs : List X) → Each P xs → Each P (drop k xs)
each_drop P k xs h = λ j x e. h (k + j) x (sym (slice_get-drop k j xs) ∙ e)

-- Entries that pass have ranks below the end and not more than n below it, and the ranks ascend with the keys.
module _ {X : Type 0} (key rank value : X → ℤ) (test : X → Bool) (end : ℤ)
    (up : (x y : X) → test x ≡ true → test y ≡ true → key x <ℤ key y → rank x <ℤ rank y) where
  pub record IsRanked (n : ℕ) (x : X) : Type 0 where
    pub below : rank x <ℤ end
    pub above : end ≤ℤ (rank x +ℤ pos n)

  passing : (n : ℕ) (x : X) (xs : List X) → test x ≡ true → Ascends key (x ∷ xs) → Each (λ y. IsSmall (value y)) (x ∷ xs)
      → Each (λ y. test y ≡ true → IsRanked n y) (x ∷ xs)
      → ((m : ℕ) → Each (λ y. test y ≡ true → IsRanked m y) xs → unsigned_abs (total (λ y. only_if (test y) (value y)) xs) ≤ m * 10 ^ 30)
      → unsigned_abs (total (λ y. only_if (test y) (value y)) (x ∷ xs)) ≤ n * 10 ^ 30
  passing zero x xs e a small ranked rest =
      let r = ranked 0 x refl e in
      let b = r.below in
      let d = r.above in
      absurd (omega (arith, ints, b, d))
  passing (suc n) x xs e a small ranked rest =
      let r = ranked 0 x refl e in
      let d = r.above in
      let most = rest n (λ k y f g.
      let s = ranked (suc k) y f g in
      let less = up x y e g (later key x xs a k y f) in
      record { below = s.below; above = omega (arith, ints, less, d) }) in
      let s = small 0 x refl in
      let here : only_if (test x) (value x) ≡ value x = ap (λ b. only_if b (value x)) e in
      omega (arith, ints, most, s, here)

  failing : (n : ℕ) (x : X) (xs : List X) → test x ≡ false
      → unsigned_abs (total (λ y. only_if (test y) (value y)) xs) ≤ n * 10 ^ 30
      → unsigned_abs (total (λ y. only_if (test y) (value y)) (x ∷ xs)) ≤ n * 10 ^ 30
  failing n x xs e most =
      let here : only_if (test x) (value x) ≡ pos 0 = ap (λ b. only_if b (value x)) e in
      omega (arith, ints, most, here)

  by_test : (n : ℕ) (x : X) (xs : List X) (b : Bool) → test x ≡ b → Ascends key (x ∷ xs) → Each (λ y. IsSmall (value y)) (x ∷ xs)
      → Each (λ y. test y ≡ true → IsRanked n y) (x ∷ xs)
      → ((m : ℕ) → Each (λ y. test y ≡ true → IsRanked m y) xs → unsigned_abs (total (λ y. only_if (test y) (value y)) xs) ≤ m * 10 ^ 30)
      → unsigned_abs (total (λ y. only_if (test y) (value y)) (x ∷ xs)) ≤ n * 10 ^ 30
  by_test n x xs true e a small ranked rest = passing n x xs e a small ranked rest
  by_test n x xs false e a small ranked rest = failing n x xs e (rest n (λ k y f. ranked (suc k) y f))

  pub bounded : (n : ℕ) (xs : List X) → Ascends key xs → Each (λ y. IsSmall (value y)) xs → Each (λ y. test y ≡ true → IsRanked n y) xs
      → unsigned_abs (total (λ y. only_if (test y) (value y)) xs) ≤ n * 10 ^ 30
  bounded n [] a small ranked = omega arith
  bounded n (x ∷ xs) a small ranked =
      by_test n x xs (test x) refl a small ranked
      (λ m r. bounded m xs (ascends_tail key x xs a) (λ k y e. small (suc k) y e) r)

-- a sum that goes along a list
pub total_step : {X : Type 0} (f : X → ℤ) (xs : List X) (k : ℕ) (d : X) → k < length xs
    → total f (drop k xs) ≡ f (get_or xs k d) +ℤ total f (drop (k + 1) xs)
total_step f xs k d h = ap (total f) (drop-cons xs k d h ∙ ap (λ n. get_or xs k d ∷ drop n xs) (next k))
  where
    next : (k : ℕ) → suc k ≡ k + 1
    next k = omega arith

pub total_end : {X : Type 0} (f : X → ℤ) (xs : List X) (k : ℕ) → length xs ≤ k → total f (drop k xs) ≡ pos 0
total_end f xs k h = ap (total f) (drop_all k xs h)

pair_both : (a b : Bool) → (a && b) ≡ true → (a ≡ true) × (b ≡ true)
pair_both true true e = (refl, refl)
pair_both true false e = cc
pair_both false b e = cc

-- the train on the other side
abbrev other_on : Side → PairValue → ℕ
other_on First x = x.second
other_on Second x = x.first

other_below : (side : Side) (x : PairValue) → IsPairValue x → other_on side x < 200
other_below First x h = h.second
other_below Second x h = h.first

other_up : (side : Side) (t i : ℕ) (x y : PairValue) → (train_on side x == t && x.number == i) ≡ true → (train_on side y == t && y.number == i) ≡ true
    → pos (pair_key x) <ℤ pos (pair_key y) → pos (other_on side x) <ℤ pos (other_on side y)
other_up First t i x y e f l =
    let p = pair_both (x.first == t) (x.number == i) e in
    let q = pair_both (y.first == t) (y.number == i) f in
    let a = eqb-true x.first t p.0 in
    let b = eqb-true x.number i p.1 in
    let c = eqb-true y.first t q.0 in
    let d = eqb-true y.number i q.1 in
    omega (arith, ints, a, b, c, d, l)
other_up Second t i x y e f l =
    let p = pair_both (x.second == t) (x.number == i) e in
    let q = pair_both (y.second == t) (y.number == i) f in
    let a = eqb-true x.second t p.0 in
    let b = eqb-true x.number i p.1 in
    let c = eqb-true y.second t q.0 in
    let d = eqb-true y.number i q.1 in
    omega (arith, ints, a, b, c, d, l)

-- what is left for a train at a pattern is at most 200 numbers in size
pub side_bounded : (side : Side) (t i k : ℕ) (xs : List PairValue) → ArePairValues xs → unsigned_abs (total (value_on side t i) (drop k xs)) ≤ 200 * 10 ^ 30
side_bounded side t i k xs h =
    bounded (λ x. pos (pair_key x)) (λ x. pos (other_on side x)) (λ x. x.value) (λ x. train_on side x == t && x.number == i) (pos 200) (other_up side t i) 200
    (drop k xs) (ascends_drop (λ x. pos (pair_key x)) k xs h.ascends)
    (each_drop (λ x. IsSmall x.value) k xs (λ j x e. (h.each j x e).value))
    (λ j x e p.
    let b = other_below side x (each_drop IsPairValue k xs h.each j x e) in
    record { below = omega (arith, ints, b); above = omega (arith, ints) })

train_up : (t : ℕ) (x y : TrainValue) → (x.train == t) ≡ true → (y.train == t) ≡ true → pos x.train <ℤ pos y.train → pos x.train <ℤ pos y.train
train_up t x y e f l = l

-- what is left of a train's own numbers
pub u_bounded : (l : Leaf) (k t : ℕ) → unsigned_abs (total (train_value t) (drop k l.u)) ≤ 200 * 10 ^ 30
u_bounded l k t =
    bounded (λ x. pos x.train) (λ x. pos x.train) (λ x. x.value) (λ x. x.train == t) (pos 200) (train_up t) 200
    (drop k l.u) (ascends_drop (λ x. pos x.train) k l.u l.kept.u_ascends)
    (each_drop (λ x. IsSmall x.value) k l.u (λ j x e. (l.kept.u_each j x e).value))
    (λ j x e p.
    let b = (each_drop (λ x. x.train < 200) k l.u (λ i y f. (l.kept.u_each i y f).train)) j x e in
    record { below = omega (arith, ints, b); above = omega (arith, ints) })
