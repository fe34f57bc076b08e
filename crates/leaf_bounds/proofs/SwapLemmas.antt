-- Sums over trains' pairs and over minutes are sums over what is listed.
use Rattle.std.proofs.Common.{◌≡◌, ℕ, zero, suc, ◌+◌, ◌-◌, ◌<◌, ◌≤◌, ◌==◌, ◌&&◌, Bool, true, false, eqb, List, [], ◌∷◌, map, length, refl, sym, ap, ◌∙◌, arith, inl, inr, ◌⊎◌, ℤ, pos, neg_ℤ, ◌+ℤ◌, ◌-ℤ◌, ◌≤ℤ◌}
use Rattle.std.specs.Prelude.{unsigned_abs}
use Rattle.std.specs.List.{All, flat_map, range_with_len}
use Rattle.std.specs.Ordering.{int_eq}
use Rattle.std.proofs.lemmas.Int.{ints}
use Rattle.std.proofs.lemmas.Bool.{cases_lt, eq-eqb, ne_eqb}
use Rattle.std.proofs.lemmas.Bool.Decides.{nat_tests}
use Rattle.std.proofs.lemmas.List.Elements.{All-weaker}
use Rattle.station.specs.Allowed.{numbers, StationRecord}
use Rattle.station.specs.declared.part.Pattern.{Pattern}
use Rattle.path_conflicts.specs.declared.held.Held.{Held}
use Rattle.path_conflicts.specs.Minutes.{minute_count, minutes, is_within, free_from, holds_platform}
use Rattle.pair_prices.specs.Case.{CaseRecord}
use Rattle.pair_prices.specs.Trains.{TrainPair, pairs_with, train_pairs}
use Rattle.leaf_bounds.specs.declared.number.MinuteValue.{MinuteValue}
use Rattle.leaf_bounds.specs.declared.number.PairValue.{PairValue}
use Rattle.leaf_bounds.specs.declared.leaf.Leaf.{Leaf}
use Rattle.leaf_bounds.specs.Total.{only_if, total}
use Rattle.leaf_bounds.specs.Listed.{is_at, pair_listed, v_listed, IsMinuteValue}
use Rattle.leaf_bounds.specs.Leaf.{potentials, held}
use Rattle.leaf_bounds.specs.Places.{value_within}
use Rattle.leaf_bounds.specs.Sides.{value_on}
use Rattle.leaf_bounds.specs.declared.potentials.Side.TheVariants.{First, Second}
use Rattle.leaf_bounds.specs.Shown.{numbers_of, IsPairThere}
use Rattle.leaf_bounds.proofs.Totals.{total-append, total_add, total_none, total_same, total_swap, total_at}
use Rattle.leaf_bounds.proofs.MadeLemmas.{all_same}
use Rattle.patterns.proofs.Bounds.{all_from_places}

pub total_map : {X Y : Type 0} (f : Y → ℤ) (g : X → Y) (xs : List X) → total f (map g xs) ≡ total (λ x. f (g x)) xs
total_map f g [] = refl
total_map f g (x ∷ xs) = ap (λ z. f (g x) +ℤ z) (total_map f g xs)

pub total_flat_map : {X Y : Type 0} (f : Y → ℤ) (g : X → List Y) (xs : List X) → total f (flat_map g xs) ≡ total (λ x. total f (g x)) xs
total_flat_map f g [] = refl
total_flat_map f g (x ∷ xs) = total-append f (g x) (flat_map g xs) ∙ ap (λ z. total f (g x) +ℤ z) (total_flat_map f g xs)

range_none : (f : ℕ → ℤ) (k a m : ℕ) → ((t : ℕ) → a ≤ t → t < a + m → k ≡ t → ⊥)
    → total (λ t. only_if (eqb k t) (f t)) (range_with_len a m) ≡ pos 0
range_none f k a zero h = refl
range_none f k a (suc m) h =
    let here : only_if (eqb k a) (f a) ≡ pos 0 = ap (λ b. only_if b (f a)) (ne_eqb k a (h a (omega arith) (omega arith))) in
    let rest = range_none f k (a + 1) m (λ t l n e. h t (omega arith) (omega arith) e) in
    omega (arith, ints, here, rest)

range_at_by : (f : ℕ → ℤ) (k a m : ℕ) → a ≤ k → (a < k) ⊎ (k ≤ a)
    → (a < k → total (λ t. only_if (eqb k t) (f t)) (range_with_len (a + 1) m) ≡ f k)
    → total (λ t. only_if (eqb k t) (f t)) (range_with_len a (suc m)) ≡ f k
range_at_by f k a m l (inl n) rest =
    let here : only_if (eqb k a) (f a) ≡ pos 0 = ap (λ b. only_if b (f a)) (ne_eqb k a (λ e. omega arith)) in
    let more = rest n in
    omega (arith, ints, here, more)
range_at_by f k a m l (inr n) rest =
    let e : k ≡ a = omega arith in
    let here : only_if (eqb k a) (f a) ≡ f a = ap (λ b. only_if b (f a)) (eq-eqb k a e) in
    let last : f a ≡ f k = ap f (sym e) in
    let none = range_none f k (a + 1) m (λ t i j g. omega arith) in
    omega (arith, ints, here, last, none)

range_at : (f : ℕ → ℤ) (k a m : ℕ) → a ≤ k → k < a + m → total (λ t. only_if (eqb k t) (f t)) (range_with_len a m) ≡ f k
range_at f k a zero l n = absurd (omega arith)
range_at f k a (suc m) l n = range_at_by f k a m l (cases_lt a k) (λ i. range_at f k (a + 1) m (omega arith) (omega arith))

-- a test that is the same for all
pull : {X : Type 0} (b : Bool) (d : X → Bool) (g : X → ℤ) (xs : List X)
    → total (λ x. only_if (b && d x) (g x)) xs ≡ only_if b (total (λ x. only_if (d x) (g x)) xs)
pull true d g xs = refl
pull false d g xs = total_none xs

push : {X : Type 0} (b : Bool) (g : X → ℤ) (xs : List X) → only_if b (total g xs) ≡ total (λ x. only_if b (g x)) xs
push true g xs = refl
push false g xs = sym (total_none xs)

-- of all pairs just one is of these two trains
pub pair_at : (g : TrainPair → ℤ) (a b n : ℕ) → a < b → b < n
    → total (λ p. only_if (a == p.first && b == p.second) (g p)) (train_pairs n) ≡ g (record { first = a; second = b })
unfolding train_pairs
pair_at g a b n h l =
    total_flat_map (λ p. only_if (a == p.first && b == p.second) (g p)) (pairs_with n) (numbers n)
    ∙ total_same (λ s. total (λ p. only_if (a == p.first && b == p.second) (g p)) (pairs_with n s))
    (λ s. only_if (eqb a s) (total (λ t. only_if (eqb b t) (g (record { first = s; second = t }))) (range_with_len (s + 1) (n - (s + 1))))) (numbers n)
    (all_same (λ s. total (λ p. only_if (a == p.first && b == p.second) (g p)) (pairs_with n s))
    (λ s. only_if (eqb a s) (total (λ t. only_if (eqb b t) (g (record { first = s; second = t }))) (range_with_len (s + 1) (n - (s + 1))))) (numbers n)
    (λ s. total_map (λ p. only_if (a == p.first && b == p.second) (g p)) (λ t. record { first = s; second = t }) (range_with_len (s + 1) (n - (s + 1)))
    ∙ pull (a == s) (λ t. b == t) (λ t. g (record { first = s; second = t })) (range_with_len (s + 1) (n - (s + 1)))))
    ∙ total_at (λ s. total (λ t. only_if (eqb b t) (g (record { first = s; second = t }))) (range_with_len (s + 1) (n - (s + 1)))) a n (omega arith)
    ∙ range_at (λ t. g (record { first = a; second = t })) b (a + 1) (n - (a + 1)) (omega arith) (omega arith)

-- a sum over pairs, of what is listed, is one over the list
shuffle : (a b d e : Bool) (z : ℤ) → only_if d (only_if (a && b && e) z) ≡ only_if (a && b) (only_if (d && e) z)
shuffle true true true e z = refl
shuffle true true false e z = elim e as (λ w. pos 0 ≡ only_if true (only_if (false && w) z)) [ true ↦ refl | false ↦ refl ]
shuffle true false true e z = refl
shuffle true false false e z = refl
shuffle false b true e z = refl
shuffle false b false e z = refl

module _ (n : ℕ) (xs : List PairValue) (there : All (λ x. (x.first < x.second) × (x.second < n)) xs) (i : ℕ) (side : TrainPair → ℕ) (t : ℕ) where
  one_entry : (x : PairValue) → (x.first < x.second) × (x.second < n)
      → total (λ p. only_if (side p == t) (only_if (is_at p i x) x.value)) (train_pairs n)
      ≡ only_if (side (record { first = x.first; second = x.second }) == t && x.number == i) x.value
  one_entry x h =
      total_same (λ p. only_if (side p == t) (only_if (is_at p i x) x.value))
      (λ p. only_if (x.first == p.first && x.second == p.second) (only_if (side p == t && x.number == i) x.value)) (train_pairs n)
      (all_same (λ p. only_if (side p == t) (only_if (is_at p i x) x.value))
      (λ p. only_if (x.first == p.first && x.second == p.second) (only_if (side p == t && x.number == i) x.value)) (train_pairs n)
      (λ p. shuffle (x.first == p.first) (x.second == p.second) (side p == t) (x.number == i) x.value))
      ∙ pair_at (λ p. only_if (side p == t && x.number == i) x.value) x.first x.second n h.0 h.1

  pub side_sum : total (λ p. only_if (side p == t) (pair_listed xs p i)) (train_pairs n)
      ≡ total (λ x. only_if (side (record { first = x.first; second = x.second }) == t && x.number == i) x.value) xs
  side_sum =
      total_same (λ p. only_if (side p == t) (pair_listed xs p i)) (λ p. total (λ x. only_if (side p == t) (only_if (is_at p i x) x.value)) xs) (train_pairs n)
      (all_same (λ p. only_if (side p == t) (pair_listed xs p i)) (λ p. total (λ x. only_if (side p == t) (only_if (is_at p i x) x.value)) xs) (train_pairs n)
      (λ p. push (side p == t) (λ x. only_if (is_at p i x) x.value) xs))
      ∙ total_swap (λ p x. only_if (side p == t) (only_if (is_at p i x) x.value)) (train_pairs n) xs
      ∙ total_same (λ x. total (λ p. only_if (side p == t) (only_if (is_at p i x) x.value)) (train_pairs n))
      (λ x. only_if (side (record { first = x.first; second = x.second }) == t && x.number == i) x.value) xs
      (All-weaker (λ x. (x.first < x.second) × (x.second < n))
      (λ x. total (λ p. only_if (side p == t) (only_if (is_at p i x) x.value)) (train_pairs n)
      ≡ only_if (side (record { first = x.first; second = x.second }) == t && x.number == i) x.value) one_entry xs there)

order_there : (c : CaseRecord) (xs : List PairValue) → All (IsPairThere c) xs → All (λ x. (x.first < x.second) × (x.second < length c.book)) xs
order_there c xs h = All-weaker (IsPairThere c) (λ x. (x.first < x.second) × (x.second < length c.book)) (λ x q. (q.order, q.there)) xs h

-- the potentials of a train at a pattern, by what is listed
pub potentials_are : (c : CaseRecord) (l : Leaf) (t i : ℕ) → All (IsPairThere c) l.alpha → All (IsPairThere c) l.beta
    → potentials c (numbers_of l) t i ≡ total (value_on First t i) l.alpha +ℤ total (value_on Second t i) l.beta
unfolding potentials
potentials_are c l t i a b =
    total_add (λ p. only_if (p.first == t) (pair_listed l.alpha p i)) (λ p. only_if (p.second == t) (pair_listed l.beta p i)) (train_pairs (length c.book))
    ∙ ap (λ z. z +ℤ total (λ p. only_if (p.second == t) (pair_listed l.beta p i)) (train_pairs (length c.book)))
    (side_sum (length c.book) l.alpha (order_there c l.alpha a) i (λ p. p.first) t)
    ∙ ap (λ z. total (value_on First t i) l.alpha +ℤ z) (side_sum (length c.book) l.beta (order_there c l.beta b) i (λ p. p.second) t)

-- of all minutes just one is this one
place_of : ℤ → ℕ
place_of m = unsigned_abs (m +ℤ pos 90)

place_is : (m : ℤ) → neg_ℤ (pos 90) ≤ℤ m → m ≡ pos (place_of m) -ℤ pos 90
unfolding place_of
place_is m h = omega (arith, ints)

place_most : (m : ℤ) → neg_ℤ (pos 90) ≤ℤ m → m ≤ℤ pos 2968 → place_of m < minute_count
unfolding place_of minute_count
place_most m h l = omega (arith, ints)

same_minute : (a b : ℕ) → int_eq (pos a -ℤ pos 90) (pos b -ℤ pos 90) ≡ eqb a b
same_minute a b = grind (arith, ints, nat_tests)

minute_at : (g : ℤ → ℤ) (m : ℤ) → neg_ℤ (pos 90) ≤ℤ m → m ≤ℤ pos 2968 → total (λ k. only_if (int_eq m k) (g k)) minutes ≡ g m
unfolding minutes
minute_at g m h l =
    let e = place_is m h in
    total_map (λ k. only_if (int_eq m k) (g k)) (λ k. pos k -ℤ pos 90) (numbers minute_count)
    ∙ total_same (λ k. only_if (int_eq m (pos k -ℤ pos 90)) (g (pos k -ℤ pos 90))) (λ k. only_if (eqb (place_of m) k) (g (pos k -ℤ pos 90))) (numbers minute_count)
    (all_same (λ k. only_if (int_eq m (pos k -ℤ pos 90)) (g (pos k -ℤ pos 90))) (λ k. only_if (eqb (place_of m) k) (g (pos k -ℤ pos 90))) (numbers minute_count)
    (λ k. ap (λ b. only_if b (g (pos k -ℤ pos 90))) (ap (λ z. int_eq z (pos k -ℤ pos 90)) e ∙ same_minute (place_of m) k)))
    ∙ total_at (λ k. g (pos k -ℤ pos 90)) (place_of m) minute_count (place_most m h l)
    ∙ ap g (sym e)

-- a sum over minutes, of what is listed for a platform, is one over the list
swapped : (w a q : Bool) (z : ℤ) → only_if w (only_if (a && q) z) ≡ only_if q (only_if (a && w) z)
swapped true true true z = refl
swapped true true false z = refl
swapped true false true z = refl
swapped true false false z = refl
swapped false true true z = refl
swapped false true false z = refl
swapped false false true z = refl
swapped false false false z = refl

module _ (p : ℕ) (w : ℤ → Bool) where
  one_minute : (x : MinuteValue) → IsMinuteValue x
      → total (λ m. only_if (w m) (only_if (x.platform == p && int_eq x.minute m) x.value)) minutes ≡ only_if (x.platform == p && w x.minute) x.value
  one_minute x h =
      let first = h.first in
      let last = h.last in
      total_same (λ m. only_if (w m) (only_if (x.platform == p && int_eq x.minute m) x.value))
      (λ m. only_if (int_eq x.minute m) (only_if (x.platform == p && w m) x.value)) minutes
      (all_same (λ m. only_if (w m) (only_if (x.platform == p && int_eq x.minute m) x.value))
      (λ m. only_if (int_eq x.minute m) (only_if (x.platform == p && w m) x.value)) minutes
      (λ m. swapped (w m) (x.platform == p) (int_eq x.minute m) x.value))
      ∙ minute_at (λ m. only_if (x.platform == p && w m) x.value) x.minute (omega (arith, ints, first)) last

  pub minutes_sum : (xs : List MinuteValue) → All IsMinuteValue xs
      → total (λ m. only_if (w m) (v_listed xs p m)) minutes ≡ total (λ x. only_if (x.platform == p && w x.minute) x.value) xs
  minutes_sum xs there =
      total_same (λ m. only_if (w m) (v_listed xs p m)) (λ m. total (λ x. only_if (w m) (only_if (x.platform == p && int_eq x.minute m) x.value)) xs) minutes
      (all_same (λ m. only_if (w m) (v_listed xs p m)) (λ m. total (λ x. only_if (w m) (only_if (x.platform == p && int_eq x.minute m) x.value)) xs) minutes
      (λ m. push (w m) (λ x. only_if (x.platform == p && int_eq x.minute m) x.value) xs))
      ∙ total_swap (λ m x. only_if (w m) (only_if (x.platform == p && int_eq x.minute m) x.value)) minutes xs
      ∙ total_same (λ x. total (λ m. only_if (w m) (only_if (x.platform == p && int_eq x.minute m) x.value)) minutes)
      (λ x. only_if (x.platform == p && w x.minute) x.value) xs
      (All-weaker IsMinuteValue
      (λ x. total (λ m. only_if (w m) (only_if (x.platform == p && int_eq x.minute m) x.value)) minutes ≡ only_if (x.platform == p && w x.minute) x.value)
      one_minute xs there)

-- what a pattern is charged for its minutes, by what is listed
pub held_is : (c : CaseRecord) (l : Leaf) (x : Pattern)
    → held c (numbers_of l) x ≡ total (value_within x.platform x.arrive (free_from c.station x)) l.v
unfolding held
held_is c l x = minutes_sum x.platform (λ m. holds_platform c.station x m) l.v (all_from_places IsMinuteValue l.v l.kept.v_each)

within_all : (m : ℤ) → neg_ℤ (pos 90) ≤ℤ m → m ≤ℤ pos 2968 → is_within (neg_ℤ (pos 90)) (pos 2969) m ≡ true
within_all m h l = grind (arith, ints)

-- all that is listed for a platform
pub all_is : (l : Leaf) (p : ℕ) → total (v_listed l.v p) minutes ≡ total (value_within p (neg_ℤ (pos 90)) (pos 2969)) l.v
all_is l p =
    minutes_sum p (λ m. true) l.v (all_from_places IsMinuteValue l.v l.kept.v_each)
    ∙ total_same (λ x. only_if (x.platform == p && true) x.value) (value_within p (neg_ℤ (pos 90)) (pos 2969)) l.v
    (all_from_places (λ x. only_if (x.platform == p && true) x.value ≡ value_within p (neg_ℤ (pos 90)) (pos 2969) x) l.v
    (λ i x e.
    let first = (l.kept.v_each i x e).first in
    let last = (l.kept.v_each i x e).last in
    ap (λ b. only_if (x.platform == p && b) x.value) (sym (within_all x.minute (omega (arith, ints, first)) last))))

-- the same, as the code adds it up
pub held_from : (c : CaseRecord) (l : Leaf) (x y : Pattern) (span : Held) (v : List MinuteValue) (r : StationRecord) (sum : ℤ) → y ≡ x → r ≡ c.station
    → span ≡ record { start = y.arrive; end = free_from r y } → v ≡ l.v → sum ≡ total (value_within y.platform span.start span.end) v
    → sum ≡ held c (numbers_of l) x
held_from c l x y span v r sum same station is values value =
    value
    ∙ (λ i. total (value_within (same i).platform (is i).start (is i).end) (values i))
    ∙ (λ i. total (value_within x.platform (same i).arrive (free_from (station i) (same i))) l.v)
    ∙ sym (held_is c l x)
