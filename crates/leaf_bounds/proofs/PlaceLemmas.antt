-- What is listed at a key, by the key's place.
use Rattle.std.proofs.Common.{◌≡◌, ℕ, zero, suc, ◌+◌, ◌<◌, ◌≤◌, ◌==◌, ◌&&◌, Bool, true, false, List, [], ◌∷◌, length, get_or, refl, sym, ap, ◌∙◌, arith, inl, inr, ◌⊎◌, Option, Some, None, ℤ, pos, ◌≤ℤ◌, ◌<ℤ◌}
use Rattle.std.specs.Prelude.{slice_get}
use Rattle.std.proofs.lemmas.Int.{ints}
use Rattle.std.proofs.lemmas.Bool.{cases_lt, eqb-true}
use Rattle.std.proofs.lemmas.Option.{slice_get_within, slice_get-get_or}
use borrow.Author.Tests.{ltb-false, ltb-true}
use Rattle.pair_prices.specs.Trains.{TrainPair}
use Rattle.leaf_bounds.specs.declared.number.PairValue.{PairValue}
use Rattle.leaf_bounds.specs.Total.{only_if}
use Rattle.leaf_bounds.specs.Listed.{Ascends, is_at, pair_key, pair_listed}
use Rattle.leaf_bounds.specs.Places.{AreBelow, IsPlace, is_below, key_at}

pub ascends_tail : {X : Type 0} (key : X → ℤ) (x : X) (xs : List X) → Ascends key (x ∷ xs) → Ascends key xs
ascends_tail key x xs h = λ i y z e f. h (suc i) y z e (ap (slice_get (x ∷ xs)) (next i) ∙ f)
  where
    next : (i : ℕ) → suc i + 1 ≡ suc (i + 1)
    next i = omega arith

-- all later keys are greater
pub later : {X : Type 0} (key : X → ℤ) (x : X) (xs : List X) → Ascends key (x ∷ xs) → (k : ℕ) (y : X) → slice_get xs k ≡ Some y → key x <ℤ key y
later key x [] h k y e = cc
later key x (z ∷ zs) h zero y e = h 0 x y refl e
later key x (z ∷ zs) h (suc k) y e =
    let first : key x <ℤ key z = h 0 x z refl refl in
    let rest : key z <ℤ key y = later key z zs (ascends_tail key x (z ∷ zs) h) k y e in
    omega (arith, ints, first, rest)

-- the keys of two places are in the order of the places
pub ascending_at : {X : Type 0} (key : X → ℤ) (xs : List X) → Ascends key xs → (i j : ℕ) (x y : X) → i ≤ j
    → slice_get xs i ≡ Some x → slice_get xs j ≡ Some y → key x ≤ℤ key y
ascending_at key [] h i j x y l e f = cc
ascending_at key (z ∷ zs) h zero zero x y l e f =
    let same : x ≡ y = cc in
    let keys = ap key same in
    omega (arith, ints, keys)
ascending_at key (z ∷ zs) h zero (suc j) x y l e f =
    let same : z ≡ x = cc in
    let keys = ap key same in
    let less = later key z zs h j y f in
    omega (arith, ints, keys, less)
ascending_at key (z ∷ zs) h (suc i) zero x y l e f = absurd (omega arith)
ascending_at key (z ∷ zs) h (suc i) (suc j) x y l e f = ascending_at key zs (ascends_tail key z zs h) i j x y (omega arith) e f

off_by : (a b d : Bool) → (a ≡ true → b ≡ true → d ≡ true → ⊥) → (a && b && d) ≡ false
off_by true true true h = absurd (h refl refl refl)
off_by true true false h = refl
off_by true false d h = refl
off_by false b d h = refl

-- an entry with another key isn't the one that is looked for
pub off : (p : TrainPair) (i : ℕ) (x : PairValue) → (pair_key x ≡ key_at p.first p.second i → ⊥) → is_at p i x ≡ false
off p i x h =
    off_by (x.first == p.first) (x.second == p.second) (x.number == i)
    (λ a b d. h (let f = eqb-true x.first p.first a in let s = eqb-true x.second p.second b in let n = eqb-true x.number i d in omega (arith, f, s, n)))

pub none_listed : (p : TrainPair) (i : ℕ) (xs : List PairValue)
    → ((k : ℕ) (y : PairValue) → slice_get xs k ≡ Some y → pair_key y ≡ key_at p.first p.second i → ⊥) → pair_listed xs p i ≡ pos 0
none_listed p i [] h = refl
none_listed p i (x ∷ xs) h =
    let here : only_if (is_at p i x) x.value ≡ pos 0 = ap (λ b. only_if b x.value) (off p i x (h 0 x refl)) in
    let rest = none_listed p i xs (λ k y e. h (suc k) y e) in
    omega (arith, ints, here, rest)

-- the number of an entry, where it is the one that is looked for
abbrev pub at_place : TrainPair → ℕ → Option PairValue → ℤ
at_place p i None = pos 0
at_place p i (Some x) = only_if (is_at p i x) x.value

pub listed_at : (p : TrainPair) (i : ℕ) (xs : List PairValue) (place : ℕ) → Ascends (λ x. pos (pair_key x)) xs
    → IsPlace xs (key_at p.first p.second i) place → pair_listed xs p i ≡ at_place p i (slice_get xs place)
listed_at p i [] place a h = refl
listed_at p i (x ∷ xs) zero a h =
    let least = h.rest 0 x (omega arith) refl in
    let rest = none_listed p i xs
    (λ k y e g. let less = later (λ x. pos (pair_key x)) x xs a k y e in omega (arith, ints, less, least, g)) in
    omega (arith, ints, rest)
listed_at p i (x ∷ xs) (suc k) a h =
    let less = h.below 0 x (omega arith) refl in
    let here : only_if (is_at p i x) x.value ≡ pos 0 = ap (λ b. only_if b x.value) (off p i x (λ e. omega (arith, less, e))) in
    let rest = listed_at p i xs k (ascends_tail (λ x. pos (pair_key x)) x xs a)
    (record { below = λ j y l e. h.below (suc j) y (omega arith) e; rest = λ j y l e. h.rest (suc j) y (omega arith) e }) in
    omega (arith, ints, here, rest)

not_behind : (xs : List PairValue) (f s place : ℕ) → Ascends (λ x. pos (pair_key x)) xs → IsPlace xs (key_at f s 0) place
    → ((x : PairValue) → slice_get xs place ≡ Some x → key_at f s 4096 ≤ pair_key x)
    → (i k : ℕ) (y : PairValue) → i < 4096 → slice_get xs k ≡ Some y → pair_key y ≡ key_at f s i → (k < place) ⊎ (place ≤ k) → ⊥
not_behind xs f s place a h g i k y l e q (inl m) = let less = h.below k y m e in omega (arith, less, q, l)
not_behind xs f s place a h g i k y l e q (inr m) =
    let within = slice_get_within xs k y e in
    let there = slice_get-get_or xs place y (omega (arith, within, m)) in
    let least = g (get_or xs place y) there in
    let order = ascending_at (λ x. pos (pair_key x)) xs a place k (get_or xs place y) y m there e in
    omega (arith, ints, least, order, q, l)

-- where the entry at the first place of a pair is behind the pair, nothing is listed for it
pub none_behind : (xs : List PairValue) (f s place : ℕ) → Ascends (λ x. pos (pair_key x)) xs → IsPlace xs (key_at f s 0) place
    → ((x : PairValue) → slice_get xs place ≡ Some x → key_at f s 4096 ≤ pair_key x)
    → (i : ℕ) → i < 4096 → pair_listed xs (record { first = f; second = s }) i ≡ pos 0
none_behind xs f s place a h g i l =
    none_listed (record { first = f; second = s }) i xs (λ k y e q. not_behind xs f s place a h g i k y l e q (cases_lt k place))

-- the place that was found
pub place_found : (xs : List PairValue) (key place : ℕ) → Ascends (λ x. pos (pair_key x)) xs → AreBelow xs key place
    → is_below (slice_get xs place) key ≡ false → IsPlace xs key place
place_found xs key place a h e = record { below = h; rest = λ k x l g. rest_from xs key place a e k x l g }
  where
    least : (o : Option PairValue) (key : ℕ) (x : PairValue) → o ≡ Some x → is_below o key ≡ false → key ≤ pair_key x
    least None key x e f = cc
    least (Some y) key x e f =
        let same : y ≡ x = cc in
        let keys = ap pair_key same in
        let most = ltb-false (pair_key y) key f in
        omega (arith, keys, most)

    rest_from : (xs : List PairValue) (key place : ℕ) → Ascends (λ x. pos (pair_key x)) xs → is_below (slice_get xs place) key ≡ false
        → (k : ℕ) (x : PairValue) → place ≤ k → slice_get xs k ≡ Some x → key ≤ pair_key x
    rest_from xs key place a e k x l g =
        let within = slice_get_within xs k x g in
        let there = slice_get-get_or xs place x (omega (arith, within, l)) in
        let here = least (slice_get xs place) key (get_or xs place x) there e in
        let order = ascending_at (λ x. pos (pair_key x)) xs a place k (get_or xs place x) x l there g in
        omega (arith, ints, here, order)

below_at : (xs : List PairValue) (key place k : ℕ) (x : PairValue) → AreBelow xs key place → is_below (slice_get xs place) key ≡ true
    → k < place + 1 → slice_get xs k ≡ Some x → (k < place) ⊎ (place ≤ k) → pair_key x < key
below_at xs key place k x h e l g (inl m) = h k x m g
below_at xs key place k x h e l g (inr m) =
    let same : k ≡ place = omega arith in
    let there : Some x ≡ slice_get xs place = sym g ∙ ap (slice_get xs) same in
    ltb-true (pair_key x) key (ap (λ o. is_below o key) there ∙ e)

pub below_more : (xs : List PairValue) (key place : ℕ) → AreBelow xs key place → is_below (slice_get xs place) key ≡ true → AreBelow xs key (place + 1)
below_more xs key place h e = λ k x l g. below_at xs key place k x h e l g (cases_lt k place)

-- the end of the list
pub place_past : (xs : List PairValue) (key place n : ℕ) → n ≡ length xs → n ≤ place → AreBelow xs key place → IsPlace xs key n
place_past xs key place n e l h = record {
  below = λ k x m g. h k x (omega arith) g;
  rest = λ k x m g. let within = slice_get_within xs k x g in absurd (omega (arith, within, m, e));
}
