-- The potentials of a leaf, pair by pair.
use Rattle.std.proofs.Common.{◌≡◌, ℕ, zero, suc, ◌+◌, ◌-◌, ◌*◌, ◌<◌, ◌≤◌, ◌==◌, ◌&&◌, Bool, true, false, cond, List, [], ◌∷◌, ◌++◌, map, length, drop, refl, sym, ap, ◌∙◌, subst, arith, append_assoc, Option, None, Some, ℤ, pos, ◌<ℤ◌}
use Rattle.std.specs.Prelude.{slice_get, unsigned_abs}
use Rattle.std.specs.List.{filter, flat_map, range_with_len}
use Rattle.std.specs.Ordering.{int_eq}
use Rattle.std.proofs.lemmas.Int.{ints}
use Rattle.std.proofs.lemmas.Bool.{eq-eqb, eqb-true}
use Rattle.std.proofs.lemmas.List.{map-append}
use Rattle.std.proofs.lemmas.List.Elements.{filter-append}
use Rattle.station.specs.Allowed.{numbers}
use Rattle.station.proofs.Lists.{Every, Rising, every-at, every-filter, every-weaker, rising-filter}
use Rattle.pair_prices.specs.Trains.{TrainPair, pairs_with, train_pairs}
use Rattle.leaf_bounds.specs.declared.number.NumberValue.{NumberValue}
use Rattle.leaf_bounds.specs.declared.number.PairValue.{PairValue}
use Rattle.leaf_bounds.specs.declared.leaf.Leaf.{Leaf}
use Rattle.leaf_bounds.specs.Group.{Group}
use Rattle.leaf_bounds.specs.Listed.{Ascends, IsPairValue, IsTable, pair_key}
use Rattle.leaf_bounds.specs.Places.{ArePairValues, IsPlace, key_at}
use Rattle.leaf_bounds.specs.Sharing.{entries_of, entry_list, group_of, groups_of, is_pair_of, is_some_group, most_trains, number_entry, same_entries}
use Rattle.leaf_bounds.proofs.BoundedLemmas.{Each, slice_get-drop}
use Rattle.leaf_bounds.proofs.FindLemmas.{range_done, range_open}
use Rattle.leaf_bounds.proofs.RisingLemmas.{Before, ascends_from, every_from, rising_from}

pub most_is : most_trains ≡ 200
unfolding most_trains
most_is = refl

-- an entry by the place of its key
in_pair : (f s : ℕ) (x : PairValue) → IsPairValue x → f < 200 → s < 200 → key_at f s 0 ≤ pair_key x → pair_key x < key_at f s 4096
    → is_pair_of (record { first = f; second = s }) x ≡ true
in_pair f s x h a b least most =
    let n = h.number in
    let p = h.first in
    let q = h.second in
    let row : 200 * x.first + x.second ≡ 200 * f + s = omega (arith, least, most, n) in
    let one : x.first ≡ f = omega (arith, row, b, q) in
    let two : x.second ≡ s = omega (arith, row, one) in
    (λ i. eq-eqb x.first f one i && eq-eqb x.second s two i)

out_by : (a b : Bool) → (a ≡ true → b ≡ true → ⊥) → (a && b) ≡ false
out_by true true h = absurd (h refl refl)
out_by true false h = refl
out_by false b h = refl

before_pair : (f s : ℕ) (x : PairValue) → pair_key x < key_at f s 0 → is_pair_of (record { first = f; second = s }) x ≡ false
before_pair f s x h =
    out_by (x.first == f) (x.second == s)
    (λ a b. let p = eqb-true x.first f a in let q = eqb-true x.second s b in omega (arith, h, p, q))

behind_pair : (f s : ℕ) (x : PairValue) → IsPairValue x → key_at f s 4096 ≤ pair_key x → is_pair_of (record { first = f; second = s }) x ≡ false
behind_pair f s x k h =
    let n = k.number in
    out_by (x.first == f) (x.second == s)
    (λ a b. let p = eqb-true x.first f a in let q = eqb-true x.second s b in omega (arith, h, n, p, q))

filter_out : {X : Type 0} (p : X → Bool) (xs : List X) → Each (λ x. p x ≡ false) xs → filter p xs ≡ []
filter_out p [] h = refl
filter_out p (x ∷ xs) h =
    ap (λ b. cond b (x ∷ filter p xs) (filter p xs)) (h 0 x refl) ∙ filter_out p xs (λ k y e. h (suc k) y e)

filter_after : {X : Type 0} (p : X → Bool) (k : ℕ) (xs : List X) → ((j : ℕ) (x : X) → j < k → slice_get xs j ≡ Some x → p x ≡ false)
    → filter p xs ≡ filter p (drop k xs)
filter_after p zero xs h = refl
filter_after p (suc k) [] h = refl
filter_after p (suc k) (x ∷ xs) h =
    ap (λ b. cond b (x ∷ filter p xs) (filter p xs)) (h 0 x (omega arith) refl)
    ∙ filter_after p k xs (λ j y l e. h (suc j) y (omega arith) e)

opened : {X : Type 0} (k : ℕ) (xs : List X) (x : X) → slice_get xs k ≡ Some x → drop k xs ≡ x ∷ drop (suc k) xs
opened k [] x e = cc
opened zero (y ∷ xs) x e = let same : y ≡ x = cc in ap (λ z. z ∷ xs) same
opened (suc k) (y ∷ xs) x e = opened k xs x e

next_place : (k : ℕ) → suc k ≡ k + 1
next_place k = omega arith

open_drop : {X : Type 0} (k : ℕ) (xs : List X) (x : X) → slice_get xs k ≡ Some x → drop k xs ≡ x ∷ drop (k + 1) xs
open_drop k xs x e = opened k xs x e ∙ ap (λ n. x ∷ drop n xs) (next_place k)

none_drop : {X : Type 0} (k : ℕ) (xs : List X) → slice_get xs k ≡ None → drop k xs ≡ []
none_drop zero [] e = refl
none_drop (suc k) [] e = refl
none_drop zero (y ∷ xs) e = cc
none_drop (suc k) (y ∷ xs) e = none_drop k xs e

none_behind : {X : Type 0} (k : ℕ) (xs : List X) → slice_get xs k ≡ None → drop (suc k) xs ≡ []
none_behind k [] e = refl
none_behind zero (y ∷ xs) e = cc
none_behind (suc k) (y ∷ xs) e = none_behind k xs e

none_after : {X : Type 0} (k : ℕ) (xs : List X) → slice_get xs k ≡ None → drop (k + 1) xs ≡ []
none_after k xs e = ap (λ n. drop n xs) (sym (next_place k)) ∙ none_behind k xs e

pub append_nothing : {Y : Type 0} (ys : List Y) → ys ++ [] ≡ ys
append_nothing [] = refl
append_nothing (y ∷ ys) = ap (λ zs. y ∷ zs) (append_nothing ys)

module _ (f s : ℕ) (xs : List PairValue) (values : ArePairValues xs) (a : f < 200) (b : s < 200) where
  abbrev pair : TrainPair
  pair = record { first = f; second = s }

  abbrev left : ℕ → List NumberValue
  left k = map number_entry (filter (is_pair_of pair) (drop k xs))

  pub entries_start : (place : ℕ) → IsPlace xs (key_at f s 0) place → entries_of pair xs ≡ [] ++ left place
  unfolding entries_of
  entries_start place h =
      ap (map number_entry) (filter_after (is_pair_of pair) place xs (λ j x l e. before_pair f s x (h.below j x l e)))

  entries_by : (k : ℕ) (o : Option PairValue) (old new : List NumberValue) → slice_get xs k ≡ o
      → ((x : PairValue) → o ≡ Some x → is_pair_of pair x ≡ true)
      → entries_of pair xs ≡ old ++ left k → new ≡ old ++ entry_list o → entries_of pair xs ≡ new ++ left (k + 1)
  entries_by k None old new e h g n =
      g ∙ ap (λ ys. old ++ map number_entry (filter (is_pair_of pair) ys)) (none_drop k xs e ∙ sym (none_after k xs e))
      ∙ ap (λ ys. ys ++ left (k + 1)) (sym (n ∙ append_nothing old))
  entries_by k (Some x) old new e h g n =
      g ∙ ap (λ ys. old ++ map number_entry (filter (is_pair_of pair) ys)) (open_drop k xs x e)
      ∙ ap (λ d. old ++ map number_entry (cond d (x ∷ filter (is_pair_of pair) (drop (k + 1) xs)) (filter (is_pair_of pair) (drop (k + 1) xs)))) (h x refl)
      ∙ sym (append_assoc old (number_entry x ∷ []) (left (k + 1)))
      ∙ ap (λ ys. ys ++ left (k + 1)) (sym n)

  pub entries_more : (place end k : ℕ) (old new : List NumberValue) → IsPlace xs (key_at f s 0) place → IsPlace xs (key_at f s 4096) end
      → place ≤ k → k < end → entries_of pair xs ≡ old ++ left k → new ≡ old ++ entry_list (slice_get xs k) → entries_of pair xs ≡ new ++ left (k + 1)
  entries_more place end k old new h g l m e n =
      entries_by k (slice_get xs k) old new refl
      (λ x i. in_pair f s x (values.each k x i) a b (h.rest k x l i) (g.below k x m i)) e n

  pub entries_end : (end k : ℕ) (found : List NumberValue) → IsPlace xs (key_at f s 4096) end → end ≤ k → entries_of pair xs ≡ found ++ left k
      → found ≡ entries_of pair xs
  entries_end end k found g l e =
      sym (e ∙ ap (λ ys. found ++ map number_entry ys)
      (filter_out (is_pair_of pair) (drop k xs)
      (λ j x i. behind_pair f s x (values.each (k + j) x (sym (slice_get-drop k j xs) ∙ i)) (g.rest (k + j) x (omega (arith, l)) (sym (slice_get-drop k j xs) ∙ i))))
      ∙ append_nothing found)

-- a table of a leaf's pair
every_map : {X Y : Type 0} (P : Y → Type 0) (g : X → Y) (xs : List X) → Every (λ x. P (g x)) xs → Every P (map g xs)
every_map P g [] h = tt
every_map P g (x ∷ xs) h = (h.0, every_map P g xs h.1)

rising_map : {X Y : Type 0} (key : Y → ℤ) (g : X → Y) (xs : List X) → Rising (Before (λ x. key (g x))) xs → Rising (Before key) (map g xs)
rising_map key g [] h = tt
rising_map key g (x ∷ xs) h = (every_map (λ y. key (g x) <ℤ key y) g xs h.0, rising_map key g xs h.1)

both_true : (a b : Bool) → (a && b) ≡ true → (a ≡ true) × (b ≡ true)
both_true true true e = (refl, refl)
both_true true false e = cc
both_true false b e = cc

number_up : (p : TrainPair) (x y : PairValue) → is_pair_of p x ≡ true → is_pair_of p y ≡ true → pos (pair_key x) <ℤ pos (pair_key y)
    → pos x.number <ℤ pos y.number
number_up p x y e g l =
    let a = both_true (x.first == p.first) (x.second == p.second) e in
    let b = both_true (y.first == p.first) (y.second == p.second) g in
    let m = eqb-true x.first p.first a.0 in
    let n = eqb-true x.second p.second a.1 in
    let o = eqb-true y.first p.first b.0 in
    let q = eqb-true y.second p.second b.1 in
    omega (arith, ints, l, m, n, o, q)

passes_by : (p : PairValue → Bool) (x : PairValue) (xs : List PairValue) (b : Bool) → p x ≡ b → Every (λ y. p y ≡ true) xs
    → Every (λ y. p y ≡ true) (cond b (x ∷ xs) xs)
passes_by p x xs true e h = (e, h)
passes_by p x xs false e h = h

passes : (p : PairValue → Bool) (xs : List PairValue) → Every (λ x. p x ≡ true) (filter p xs)
passes p [] = tt
passes p (x ∷ xs) = passes_by p x (filter p xs) (p x) refl (passes p xs)

both_every : (P Q R : PairValue → Type 0) → ((x : PairValue) → P x → Q x → R x) → (xs : List PairValue) → Every P xs → Every Q xs → Every R xs
both_every P Q R h [] a b = tt
both_every P Q R h (x ∷ xs) a b = (h x a.0 b.0, both_every P Q R h xs a.1 b.1)

numbers_rise : (p : TrainPair) (xs : List PairValue) → Rising (Before (λ x. pos (pair_key x))) xs → Every (λ x. is_pair_of p x ≡ true) xs
    → Rising (Before (λ x. pos x.number)) xs
numbers_rise p [] h e = tt
numbers_rise p (x ∷ xs) h e = (
  both_every (λ y. pos (pair_key x) <ℤ pos (pair_key y)) (λ y. is_pair_of p y ≡ true) (λ y. pos x.number <ℤ pos y.number)
      (λ y l t. number_up p x y e.0 t l) xs h.0 e.1,
  numbers_rise p xs h.1 e.1,
)

entries_some : (p : TrainPair) (xs : List PairValue) → Each IsPairValue xs → Each (λ x. 1 ≤ unsigned_abs x.value) (entries_of p xs)
unfolding entries_of
entries_some p xs h =
    every-at (λ x. 1 ≤ unsigned_abs x.value) (map number_entry (filter (is_pair_of p) xs))
    (every_map (λ x. 1 ≤ unsigned_abs x.value) number_entry (filter (is_pair_of p) xs)
    (every-filter (λ x. 1 ≤ unsigned_abs x.value) (is_pair_of p) xs
    (every-weaker IsPairValue (λ x. 1 ≤ unsigned_abs x.value) (λ x q. q.some) xs (every_from IsPairValue xs h))))

entries_ascend : (p : TrainPair) (xs : List PairValue) → Ascends (λ x. pos (pair_key x)) xs → Ascends (λ x. pos x.number) (entries_of p xs)
unfolding entries_of
entries_ascend p xs h =
    ascends_from (λ x. pos x.number) (map number_entry (filter (is_pair_of p) xs))
    (rising_map (λ x. pos x.number) number_entry (filter (is_pair_of p) xs)
    (numbers_rise p (filter (is_pair_of p) xs)
    (rising-filter (Before (λ x. pos (pair_key x))) (is_pair_of p) xs (rising_from (λ x. pos (pair_key x)) xs h)) (passes (is_pair_of p) xs)))

pub group_table : (l : Leaf) (f s : ℕ) (alpha beta : List NumberValue) → f < s → alpha ≡ entries_of (record { first = f; second = s }) l.alpha
    → beta ≡ entries_of (record { first = f; second = s }) l.beta → IsTable f s alpha beta
group_table l f s alpha beta h e g = record {
  order = h;
  alpha_some = subst (Each (λ x. 1 ≤ unsigned_abs x.value)) (sym e) (entries_some (record { first = f; second = s }) l.alpha l.kept.alpha_each);
  beta_some = subst (Each (λ x. 1 ≤ unsigned_abs x.value)) (sym g) (entries_some (record { first = f; second = s }) l.beta l.kept.beta_each);
  alpha_ascends = subst (Ascends (λ x. pos x.number)) (sym e) (entries_ascend (record { first = f; second = s }) l.alpha l.kept.alpha_ascends);
  beta_ascends = subst (Ascends (λ x. pos x.number)) (sym g) (entries_ascend (record { first = f; second = s }) l.beta l.kept.beta_ascends);
}

-- groups that are added
pub added_step : {Z : Type 0} (b : Bool) (z : Z) (old new zs : List Z) → new ≡ old ++ cond b (z ∷ []) [] → old ++ cond b (z ∷ zs) zs ≡ new ++ zs
added_step true z old new zs m = sym (ap (λ ys. ys ++ zs) m ∙ append_assoc old (z ∷ []) zs)
added_step false z old new zs m = sym (ap (λ ys. ys ++ zs) m ∙ append_assoc old [] zs)

pub groups_more : {X Z : Type 0} (p : Z → Bool) (g : X → Z) (k : ℕ → X) (a n : ℕ) (old new whole : List Z) → a < n
    → whole ≡ old ++ filter p (map g (map k (range_with_len a (n - a))))
    → new ≡ old ++ cond (p (g (k a))) (g (k a) ∷ []) []
    → whole ≡ new ++ filter p (map g (map k (range_with_len (a + 1) (n - (a + 1)))))
groups_more p g k a n old new whole l e m =
    e ∙ ap (λ ks. old ++ filter p (map g (map k ks))) (range_open a n l)
    ∙ added_step (p (g (k a))) (g (k a)) old new (filter p (map g (map k (range_with_len (a + 1) (n - (a + 1)))))) m

pub groups_ended : {X Z : Type 0} (p : Z → Bool) (g : X → Z) (k : ℕ → X) (a n : ℕ) (found whole : List Z) → n ≤ a
    → whole ≡ found ++ filter p (map g (map k (range_with_len a (n - a)))) → found ≡ whole
groups_ended p g k a n found whole l e =
    sym (e ∙ ap (λ ks. found ++ filter p (map g (map k ks))) (range_done a n l) ∙ append_nothing found)

filter_flat : {X Y Z : Type 0} (p : Z → Bool) (g : Y → Z) (k : X → List Y) (xs : List X)
    → filter p (map g (flat_map k xs)) ≡ flat_map (λ x. filter p (map g (k x))) xs
filter_flat p g k [] = refl
filter_flat p g k (x ∷ xs) =
    ap (filter p) (map-append g (k x) (flat_map k xs)) ∙ filter-append p (map g (k x)) (map g (flat_map k xs))
    ∙ ap (λ zs. filter p (map g (k x)) ++ zs) (filter_flat p g k xs)

pub groups_whole : (l : Leaf) (n : ℕ) → n ≡ most_trains
    → flat_map (λ s. filter is_some_group (map (group_of l) (pairs_with most_trains s))) (numbers n) ≡ groups_of l
unfolding groups_of train_pairs
groups_whole l n e =
    ap (λ m. flat_map (λ s. filter is_some_group (map (group_of l) (pairs_with most_trains s))) (numbers m)) e
    ∙ sym (filter_flat is_some_group (group_of l) (pairs_with most_trains) (numbers most_trains))

-- lists of numbers that are the same are as long
pub same_length : (a b : List NumberValue) → same_entries a b ≡ true → length a ≡ length b
same_length [] [] e = refl
same_length [] (y ∷ ys) e = cc
same_length (x ∷ xs) [] e = cc
same_length (x ∷ xs) (y ∷ ys) e = ap suc (same_length xs ys (last_true (x.number == y.number) (int_eq x.value y.value) (same_entries xs ys) e))
  where
    last_true : (b d f : Bool) → (b && d && f) ≡ true → f ≡ true
    last_true true true f e = e
    last_true true false f e = cc
    last_true false d f e = cc

differ_by : (b : Bool) → (b ≡ true → ⊥) → false ≡ b
differ_by true h = absurd (h refl)
differ_by false h = refl

pub lengths_differ : (a b : List NumberValue) → (length a ≡ length b → ⊥) → false ≡ same_entries a b
lengths_differ a b h = differ_by (same_entries a b) (λ e. h (same_length a b e))

pub nothing_added : (gs : List Group) → gs ≡ gs ++ []
nothing_added gs = sym (append_nothing gs)
