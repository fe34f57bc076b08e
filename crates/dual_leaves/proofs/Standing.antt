-- The leaf of an account stands, and has the value of the account.
use Rattle.std.proofs.Common.{◌≡◌, ℕ, zero, suc, ◌<◌, ◌==◌, ◌&&◌, Bool, true, false, List, [], ◌∷◌, length, get_or, refl, sym, ap, ◌∙◌, subst, arith, ℤ, pos, ◌+ℤ◌, ◌-ℤ◌, ◌*ℤ◌, ◌≤ℤ◌, ◌<ℤ◌}
use Rattle.std.specs.Int.{int_max}
use Rattle.std.specs.Ordering.{int_eq}
use Rattle.std.specs.Prelude.{Contains, slice_index}
use Rattle.std.specs.List.{All}
use Rattle.std.specs.Map.{keys_of, values_of}
use Rattle.std.proofs.lemmas.Int.{ints, clamps, by_lt_z}
use Rattle.std.proofs.lemmas.List.Elements.{All-head, All-tail, All-weaker}
use Rattle.station.specs.Allowed.{numbers}
use Rattle.station.specs.declared.part.Pattern.{Pattern}
use Rattle.station.proofs.Lists.{Every, every-at}
use Rattle.path_conflicts.specs.Minutes.{free_from, holds_platform, minutes}
use Rattle.patterns.specs.Allowed.{Lists, list_of}
use Rattle.patterns.specs.Book.{pattern_at, price_at}
use Rattle.patterns.proofs.Bounds.{all_from_places}
use Rattle.pair_prices.specs.Case.{CaseRecord}
use Rattle.pair_prices.specs.Plan.{platform_price}
use Rattle.pair_prices.specs.Top.{sealed_price}
use Rattle.pair_prices.specs.Trains.{train_pairs}
use Rattle.pattern_pricing.specs.Layout.{LayoutRecord}
use Rattle.pattern_pricing.specs.Prices.{IsLayoutOf}
use Rattle.leaf_bounds.specs.declared.leaf.Leaf.{Leaf}
use Rattle.leaf_bounds.specs.declared.number.PairValue.{PairValue}
use Rattle.leaf_bounds.specs.Leaf.{PairHolds, PatternHolds, StandsFor, excess, held, potentials, scaled, value_of}
use Rattle.leaf_bounds.specs.Listed.{IsMinuteValue, pair_listed, u_listed, v_listed}
use Rattle.leaf_bounds.specs.Places.{value_within}
use Rattle.leaf_bounds.specs.Shown.{ArePlaces, IsPairThere, LeafStands, numbers_of}
use Rattle.leaf_bounds.specs.Total.{only_if, total}
use Rattle.leaf_bounds.proofs.SwapLemmas.{held_is, minutes_sum, side_sum}
use Rattle.leaf_bounds.proofs.Totals.{total_at, total_add, total_none, total_numbers_same}
use Rattle.ratio.proofs.Ring.{add-mul_ℤ, mul_assoc_ℤ, mul_right_comm_ℤ, mul_comm_ℤ, sub-mul_ℤ}
use Rattle.dual_leaves.specs.declared.key.PairKey.{PairKey}
use Rattle.dual_leaves.specs.declared.key.Side.{Side}
use Rattle.dual_leaves.specs.declared.key.Side.TheVariants.{First, Second}
use Rattle.dual_leaves.specs.Account.{IsMinuteKey, IsPairKey, Totals, given_at, given_on, held_by, of_number, of_pair, on_platform, sum_of}
use Rattle.dual_leaves.specs.Divided.{DivideAll, minute_value, pair_value, quotients, train_value}
use Rattle.dual_leaves.specs.Made.{IsDividedLeaf, IsDualAccount}
use Rattle.dual_leaves.specs.Sums.{summed}
use Rattle.dual_leaves.proofs.Entries.{summed_least}
use Rattle.dual_leaves.proofs.Pricing.{le_times}
use Rattle.dual_leaves.proofs.Quotients.{quotients_sum, quotients_every}

-- a positive factor cancels
less_times : (x y : ℤ) (g : ℕ) → x <ℤ y → (x *ℤ pos g +ℤ pos g) ≤ℤ (y *ℤ pos g)
less_times x y g h =
    let next = le_times (x +ℤ pos 1) y g (omega (arith, ints, h)) in
    let sum = add-mul_ℤ x (pos 1) (pos g) in
    let one = once g in
    omega (arith, ints, next, sum, one)
  where
    once : (g : ℕ) → pos 1 *ℤ pos g ≡ pos g
    once g = omega (arith, ints)

pub cancel_le : (x y : ℤ) (g : ℕ) → 0 < g → (x *ℤ pos g) ≤ℤ (y *ℤ pos g) → x ≤ℤ y
cancel_le x y g some h =
    by_lt_z y x (λ less. let more = less_times y x g less in absurd (omega (arith, ints, more, h, some))) (λ k. k)

max_times : (x y : ℤ) (g : ℕ) → 0 < g → int_max (x -ℤ y) (pos 0) *ℤ pos g ≡ int_max (x *ℤ pos g -ℤ y *ℤ pos g) (pos 0)
max_times x y g some =
    by_lt_z x y
    (λ less.
    let more = less_times x y g less in
    let low : int_max (x -ℤ y) (pos 0) ≡ pos 0 = omega (arith, ints, clamps, less) in
    let down : int_max (x *ℤ pos g -ℤ y *ℤ pos g) (pos 0) ≡ pos 0 = omega (arith, ints, clamps, more, some) in
    ap (λ z. z *ℤ pos g) low ∙ zero_times (pos g) ∙ sym down)
    (λ least.
    let more = le_times y x g least in
    let high : int_max (x -ℤ y) (pos 0) ≡ x -ℤ y = omega (arith, ints, clamps, least) in
    let up : int_max (x *ℤ pos g -ℤ y *ℤ pos g) (pos 0) ≡ x *ℤ pos g -ℤ y *ℤ pos g = omega (arith, ints, clamps, more) in
    ap (λ z. z *ℤ pos g) high ∙ sub-mul_ℤ x y (pos g) ∙ sym up)
  where
    zero_times : (g : ℤ) → pos 0 *ℤ g ≡ pos 0
    zero_times g = omega (arith, ints)

-- a sum times a factor
total_times : {X : Type 0} (f h : X → ℤ) (g : ℤ) (xs : List X) → ((x : X) → f x *ℤ g ≡ h x) → total f xs *ℤ g ≡ total h xs
total_times f h g [] e = zero_times g
  where
    zero_times : (g : ℤ) → pos 0 *ℤ g ≡ pos 0
    zero_times g = omega (arith, ints)
total_times f h g (x ∷ xs) e = add-mul_ℤ (f x) (total f xs) g ∙ (λ i. e x i +ℤ total_times f h g xs e i)

times_each : (f h : ℕ → ℤ) (g : ℤ) (n : ℕ) → ((k : ℕ) → k < n → f k *ℤ g ≡ h k) → total f (numbers n) *ℤ g ≡ total h (numbers n)
times_each f h g n e = total_times f (λ k. f k *ℤ g) g (numbers n) (λ k. refl) ∙ total_numbers_same (λ k. f k *ℤ g) h n e

-- a place of a number of a list
record IsPlaceOf (ns : List ℕ) (n : ℕ) : Type 0 where
  place : ℕ
  inside : place < length ns
  is : slice_index ns place ≡ n

default_is : (ns : List ℕ) (k d e : ℕ) → k < length ns → get_or ns k d ≡ get_or ns k e
default_is [] k d e h = absurd (omega arith)
default_is (n ∷ ns) zero d e h = refl
default_is (n ∷ ns) (suc k) d e h = default_is ns k d e (omega arith)

place_of : (ns : List ℕ) (n : ℕ) → Contains ns n → IsPlaceOf ns n
place_of ns n h = record { place = h.0; inside = h.1; is = default_is ns h.0 0 n h.1 ∙ h.2 }

-- all numbers of keys below a count are the sum over the count
sum_over : (es : List (ℕ × ℤ)) (n : ℕ) → All (λ k. k < n) (keys_of es) → total (of_number es) (numbers n) ≡ sum_of es
sum_over [] n h = total_none (numbers n)
sum_over (e ∷ es) n h =
    total_add (λ k. only_if (e.0 == k) e.1) (of_number es) (numbers n)
    ∙ (λ i. total_at (λ k. e.1) e.0 n (All-head (λ k. k < n) e.0 (keys_of es) h) i +ℤ sum_over es n (All-tail (λ k. k < n) e.0 (keys_of es) h) i)

and_true : (b : Bool) (z : ℤ) → only_if (b && true) z ≡ only_if b z
and_true true z = refl
and_true false z = refl

module _ (c : CaseRecord) (l : LayoutRecord) (layout : IsLayoutOf c l) (scale leasts q : ℤ) (g : ℕ) (some : 0 < g) (parts : q *ℤ pos g ≡ scale)
    (a : Totals) (h : IsDualAccount c l scale leasts a)
    (u_divided : DivideAll (pos g) (values_of a.u)) (v_divided : DivideAll (pos g) (values_of a.v))
    (alpha_divided : DivideAll (pos g) (values_of a.alpha)) (beta_divided : DivideAll (pos g) (values_of a.beta))
    (leaf : Leaf) (made : IsDividedLeaf q (pos g) a leaf) where
  -- the leaf's numbers, times the divisor
  u_times : (t : ℕ) → u_listed leaf.u t *ℤ pos g ≡ of_number a.u t
  u_times t =
      ap (λ xs. u_listed xs t *ℤ pos g) made.u
      ∙ quotients_sum train_value (λ x. only_if (x.train == t) x.value) (λ k. k == t) (λ k z. refl) g a.u u_divided

  v_times : (p : ℕ) (m : ℤ) → v_listed leaf.v p m *ℤ pos g ≡ summed (λ k. k.platform == p && int_eq k.minute m) a.v
  v_times p m =
      ap (λ xs. v_listed xs p m *ℤ pos g) made.v
      ∙ quotients_sum minute_value (λ x. only_if (x.platform == p && int_eq x.minute m) x.value) (λ k. k.platform == p && int_eq k.minute m) (λ k z. refl)
      g a.v v_divided

  held_times : (x : Pattern) → held c (numbers_of leaf) x *ℤ pos g ≡ held_by c a.v x
  held_times x =
      ap (λ z. z *ℤ pos g) (held_is c leaf x)
      ∙ ap (λ xs. total (value_within x.platform x.arrive (free_from c.station x)) xs *ℤ pos g) made.v
      ∙ quotients_sum minute_value (value_within x.platform x.arrive (free_from c.station x))
      (λ k. k.platform == x.platform && holds_platform c.station x k.minute) (λ k z. refl) g a.v v_divided

  on_times : (p : ℕ) → total (v_listed leaf.v p) minutes *ℤ pos g ≡ on_platform a.v p
  on_times p =
      ap (λ z. z *ℤ pos g) (minutes_sum p (λ m. true) leaf.v (all_from_places IsMinuteValue leaf.v leaf.kept.v_each))
      ∙ ap (λ xs. total (λ x. only_if (x.platform == p && true) x.value) xs *ℤ pos g) made.v
      ∙ quotients_sum minute_value (λ x. only_if (x.platform == p && true) x.value) (λ k. k.platform == p) (λ k z. and_true (k.platform == p) z) g a.v v_divided

  -- two trains and a number of a list that are there
  pairs_each : (side : Side) (es : List (PairKey × ℤ)) → All (IsPairKey l side) (keys_of es) → Every (IsPairThere c) (quotients pair_value (pos g) es)
  pairs_each side es all =
      quotients_every pair_value (IsPairKey l side) (λ z. Unit {0}) (IsPairThere c)
      (λ k z key s n. let there = key.there in record { order = key.order; there = omega (arith, there, layout.lists.trains) }) (pos g) es all (none (values_of es))
    where
      none : (zs : List ℤ) → All (λ z. Unit {0}) zs
      none zs = λ k d m. tt

  alpha_there : All (IsPairThere c) leaf.alpha
  alpha_there =
      subst (All (IsPairThere c)) (sym made.alpha)
      (all_from_places (IsPairThere c) (quotients pair_value (pos g) a.alpha)
      (every-at (IsPairThere c) (quotients pair_value (pos g) a.alpha) (pairs_each First a.alpha h.priced.kept.alpha)))

  beta_there : All (IsPairThere c) leaf.beta
  beta_there =
      subst (All (IsPairThere c)) (sym made.beta)
      (all_from_places (IsPairThere c) (quotients pair_value (pos g) a.beta)
      (every-at (IsPairThere c) (quotients pair_value (pos g) a.beta) (pairs_each Second a.beta h.priced.kept.beta)))

  order_there : (xs : List PairValue) → All (IsPairThere c) xs → All (λ x. (x.first < x.second) × (x.second < length c.book)) xs
  order_there xs h = All-weaker (IsPairThere c) (λ x. (x.first < x.second) × (x.second < length c.book)) (λ x m. (m.order, m.there)) xs h

  first_times : (t i : ℕ) → total (λ p. only_if (p.first == t) (pair_listed leaf.alpha p i)) (train_pairs (length c.book)) *ℤ pos g ≡ given_on First a.alpha t i
  first_times t i =
      ap (λ z. z *ℤ pos g) (side_sum (length c.book) leaf.alpha (order_there leaf.alpha alpha_there) i (λ p. p.first) t)
      ∙ ap (λ xs. total (λ x. only_if (x.first == t && x.number == i) x.value) xs *ℤ pos g) made.alpha
      ∙ quotients_sum pair_value (λ x. only_if (x.first == t && x.number == i) x.value) (λ k. k.first == t && k.number == i) (λ k z. refl) g a.alpha alpha_divided

  second_times : (t i : ℕ) → total (λ p. only_if (p.second == t) (pair_listed leaf.beta p i)) (train_pairs (length c.book)) *ℤ pos g ≡ given_on Second a.beta t i
  second_times t i =
      ap (λ z. z *ℤ pos g) (side_sum (length c.book) leaf.beta (order_there leaf.beta beta_there) i (λ p. p.second) t)
      ∙ ap (λ xs. total (λ x. only_if (x.second == t && x.number == i) x.value) xs *ℤ pos g) made.beta
      ∙ quotients_sum pair_value (λ x. only_if (x.second == t && x.number == i) x.value) (λ k. k.second == t && k.number == i) (λ k z. refl) g a.beta beta_divided

  potentials_times : (t i : ℕ) → potentials c (numbers_of leaf) t i *ℤ pos g ≡ given_on First a.alpha t i +ℤ given_on Second a.beta t i
  unfolding potentials
  potentials_times t i =
      ap (λ z. z *ℤ pos g)
      (total_add (λ p. only_if (p.first == t) (pair_listed leaf.alpha p i)) (λ p. only_if (p.second == t) (pair_listed leaf.beta p i)) (train_pairs (length c.book)))
      ∙ add-mul_ℤ (total (λ p. only_if (p.first == t) (pair_listed leaf.alpha p i)) (train_pairs (length c.book)))
      (total (λ p. only_if (p.second == t) (pair_listed leaf.beta p i)) (train_pairs (length c.book))) (pos g)
      ∙ (λ j. first_times t i j +ℤ second_times t i j)

  alpha_times : (s t i : ℕ) → pair_listed leaf.alpha (record { first = s; second = t }) i *ℤ pos g ≡ of_pair a.alpha s t i
  alpha_times s t i =
      ap (λ xs. pair_listed xs (record { first = s; second = t }) i *ℤ pos g) made.alpha
      ∙ quotients_sum pair_value (λ x. only_if (x.first == s && x.second == t && x.number == i) x.value)
      (λ k. k.first == s && k.second == t && k.number == i) (λ k z. refl) g a.alpha alpha_divided

  beta_times : (s t i : ℕ) → pair_listed leaf.beta (record { first = s; second = t }) i *ℤ pos g ≡ of_pair a.beta s t i
  beta_times s t i =
      ap (λ xs. pair_listed xs (record { first = s; second = t }) i *ℤ pos g) made.beta
      ∙ quotients_sum pair_value (λ x. only_if (x.first == s && x.second == t && x.number == i) x.value)
      (λ k. k.first == s && k.second == t && k.number == i) (λ k z. refl) g a.beta beta_divided

  -- a price at the leaf's scale
  price_times : (n : ℕ) → scaled (numbers_of leaf) n *ℤ pos g ≡ scale *ℤ pos n
  price_times n =
      ap (λ z. (z *ℤ pos n) *ℤ pos g) made.q ∙ mul_right_comm_ℤ q (pos n) (pos g) ∙ ap (λ z. z *ℤ pos n) parts

  -- no number of a platform at a minute is below 0
  minute_least : (p : ℕ) (m : ℤ) → pos 0 ≤ℤ v_listed leaf.v p m
  minute_least p m =
      let least = summed_least (λ k. k.platform == p && int_eq k.minute m) a.v h.priced.kept.v_least in
      let zero = zero_times (pos g) in
      let same = v_times p m in
      cancel_le (pos 0) (v_listed leaf.v p m) g some (joined (pos 0 *ℤ pos g) (v_listed leaf.v p m *ℤ pos g)
      (summed (λ k. k.platform == p && int_eq k.minute m) a.v) zero same least)
    where
      zero_times : (g : ℤ) → pos 0 *ℤ g ≡ pos 0
      zero_times g = omega (arith, ints)

      joined : (x y z : ℤ) → x ≡ pos 0 → y ≡ z → pos 0 ≤ℤ z → x ≤ℤ y
      joined x y z e f k = omega (arith, ints, e, f, k)

  pair_holds : (s t i j : ℕ) → s < t → t < length c.book → Contains (list_of l.lists s) i → Contains (list_of l.lists t) j
      → PairHolds c (numbers_of leaf) (record { first = s; second = t }) i j
  pair_holds s t i j o m ci cj =
      let x = place_of (list_of l.lists s) i ci in
      let y = place_of (list_of l.lists t) j cj in
      let most = h.priced.pairs s t x.place y.place o (omega (arith, m, layout.lists.trains)) x.inside y.inside in
      let P : ℕ → ℕ → Type 0 = λ i j. (of_pair a.alpha s t i +ℤ of_pair a.beta s t j)
      ≤ℤ (scale *ℤ pos (sealed_price c (pattern_at c.book s i) (pattern_at c.book t j))) in
      let all = subst (λ (n : ℕ). P i n) y.is (subst (λ (n : ℕ). P n (slice_index (list_of l.lists t) y.place)) x.is most) in
      let price = sealed_price c (pattern_at c.book s i) (pattern_at c.book t j) in
      cancel_le (pair_listed leaf.alpha (record { first = s; second = t }) i +ℤ pair_listed leaf.beta (record { first = s; second = t }) j)
      (scaled (numbers_of leaf) price) g some
      (joined (pair_listed leaf.alpha (record { first = s; second = t }) i) (pair_listed leaf.beta (record { first = s; second = t }) j)
      (scaled (numbers_of leaf) price) (of_pair a.alpha s t i) (of_pair a.beta s t j) (scale *ℤ pos price) (alpha_times s t i) (beta_times s t j) (price_times price) all)
    where
      joined : (x y z u v w : ℤ) → x *ℤ pos g ≡ u → y *ℤ pos g ≡ v → z *ℤ pos g ≡ w → (u +ℤ v) ≤ℤ w → ((x +ℤ y) *ℤ pos g) ≤ℤ (z *ℤ pos g)
      joined x y z u v w e f k m = let sum = add-mul_ℤ x y (pos g) in omega (arith, ints, e, f, k, m, sum)

  pattern_holds : (t i : ℕ) → t < length c.book → Contains (list_of l.lists t) i → PatternHolds c (numbers_of leaf) t i
  pattern_holds t i m ci =
      let x = place_of (list_of l.lists t) i ci in
      let most = h.priced.weights t x.place (omega (arith, m, layout.lists.trains)) x.inside in
      let P : ℕ → Type 0 = λ i. of_number a.u t ≤ℤ ((scale *ℤ pos (price_at c.book t i)) +ℤ given_at c a t i) in
      let all = subst P x.is most in
      cancel_le (u_listed leaf.u t) ((scaled (numbers_of leaf) (price_at c.book t i) +ℤ potentials c (numbers_of leaf) t i) +ℤ held c (numbers_of leaf) (pattern_at c.book t i))
      g some
      (joined (u_listed leaf.u t) (scaled (numbers_of leaf) (price_at c.book t i)) (potentials c (numbers_of leaf) t i) (held c (numbers_of leaf) (pattern_at c.book t i))
      (of_number a.u t) (scale *ℤ pos (price_at c.book t i)) (given_on First a.alpha t i +ℤ given_on Second a.beta t i) (held_by c a.v (pattern_at c.book t i))
      (u_times t) (price_times (price_at c.book t i)) (potentials_times t i) (held_times (pattern_at c.book t i)) all)
    where
      joined : (u s p v w x y z : ℤ) → u *ℤ pos g ≡ w → s *ℤ pos g ≡ x → p *ℤ pos g ≡ y → v *ℤ pos g ≡ z → w ≤ℤ (x +ℤ (y +ℤ z))
          → (u *ℤ pos g) ≤ℤ (((s +ℤ p) +ℤ v) *ℤ pos g)
      joined u s p v w x y z e f k m n =
          let outer = add-mul_ℤ (s +ℤ p) v (pos g) in
          let inner = add-mul_ℤ s p (pos g) in
          omega (arith, ints, e, f, k, m, n, outer, inner)

  stands : StandsFor c l.lists (numbers_of leaf)
  stands = record { scale = leaf.kept.q_least; minute = minute_least; pair = pair_holds; pattern = pattern_holds }

  places : ArePlaces c l.lists leaf
  places = record {
    trains = subst (All (λ x. x.train < length c.book)) (sym made.u)
        (all_from_places (λ x. x.train < length c.book) (quotients train_value (pos g) a.u)
        (every-at (λ x. x.train < length c.book) (quotients train_value (pos g) a.u)
        (quotients_every train_value (λ k. k < length l.lists) (λ z. Unit {0}) (λ x. x.train < length c.book)
        (λ k z m s n. omega (arith, m, layout.lists.trains)) (pos g) a.u h.priced.kept.u (any (values_of a.u)))));
    platforms = subst (All (λ x. x.platform < length c.station.platforms)) (sym made.v)
        (all_from_places (λ x. x.platform < length c.station.platforms) (quotients minute_value (pos g) a.v)
        (every-at (λ x. x.platform < length c.station.platforms) (quotients minute_value (pos g) a.v)
        (quotients_every minute_value (IsMinuteKey l) (λ z. Unit {0}) (λ x. x.platform < length c.station.platforms)
        (λ k z m s n. let there = m.there in omega (arith, there, layout.platforms)) (pos g) a.v h.priced.kept.v (any (values_of a.v)))));
    alpha_pairs = alpha_there;
    alpha_numbers = subst (All (λ x. Contains (list_of l.lists x.first) x.number)) (sym made.alpha)
        (all_from_places (λ x. Contains (list_of l.lists x.first) x.number) (quotients pair_value (pos g) a.alpha)
        (every-at (λ x. Contains (list_of l.lists x.first) x.number) (quotients pair_value (pos g) a.alpha)
        (quotients_every pair_value (IsPairKey l First) (λ z. Unit {0}) (λ x. Contains (list_of l.lists x.first) x.number)
        (λ k z m s n. m.listed) (pos g) a.alpha h.priced.kept.alpha (any (values_of a.alpha)))));
    beta_pairs = beta_there;
    beta_numbers = subst (All (λ x. Contains (list_of l.lists x.second) x.number)) (sym made.beta)
        (all_from_places (λ x. Contains (list_of l.lists x.second) x.number) (quotients pair_value (pos g) a.beta)
        (every-at (λ x. Contains (list_of l.lists x.second) x.number) (quotients pair_value (pos g) a.beta)
        (quotients_every pair_value (IsPairKey l Second) (λ z. Unit {0}) (λ x. Contains (list_of l.lists x.second) x.number)
        (λ k z m s n. m.listed) (pos g) a.beta h.priced.kept.beta (any (values_of a.beta)))));
  }
    where
      any : (zs : List ℤ) → All (λ z. Unit {0}) zs
      any zs = λ k d m. tt

  -- the leaf stands for lists that are the layout's
  pub leaf_stands : (lists : Lists) → l.lists ≡ lists → LeafStands c lists leaf
  leaf_stands lists e = subst (λ (ls : Lists). LeafStands c ls leaf) e (record { places = places; stands = stands })

  excess_times : (p : ℕ) → p < length c.station.platforms → excess c (numbers_of leaf) p *ℤ pos g ≡ of_number a.uses p
  unfolding excess
  excess_times p m =
      max_times (total (v_listed leaf.v p) minutes) (scaled (numbers_of leaf) (platform_price c p)) g some
      ∙ (λ i. int_max (on_times p i -ℤ price_times (platform_price c p) i) (pos 0))
      ∙ h.excess p m

  -- its value is that of the account
  value_times : value_of c (numbers_of leaf) *ℤ pos g ≡ leasts
  unfolding value_of
  value_times =
      sub-mul_ℤ (total (u_listed leaf.u) (numbers (length c.book))) (total (excess c (numbers_of leaf)) (numbers (length c.station.platforms))) (pos g)
      ∙ (λ i. u_total i -ℤ excess_total i)
      ∙ h.priced.cost
    where
      count : length c.book ≡ length l.lists
      count = sym layout.lists.trains

      u_total : total (u_listed leaf.u) (numbers (length c.book)) *ℤ pos g ≡ sum_of a.u
      u_total =
          total_times (u_listed leaf.u) (of_number a.u) (pos g) (numbers (length c.book)) u_times
          ∙ ap (λ n. total (of_number a.u) (numbers n)) count ∙ sum_over a.u (length l.lists) h.priced.kept.u

      excess_total : total (excess c (numbers_of leaf)) (numbers (length c.station.platforms)) *ℤ pos g ≡ sum_of a.uses
      excess_total =
          times_each (excess c (numbers_of leaf)) (of_number a.uses) (pos g) (length c.station.platforms) excess_times
          ∙ ap (λ n. total (of_number a.uses) (numbers n)) (sym layout.platforms) ∙ sum_over a.uses l.platforms h.priced.kept.uses

  pub value_is : value_of c (numbers_of leaf) *ℤ scale ≡ leasts *ℤ leaf.q
  value_is =
      ap (λ z. value_of c (numbers_of leaf) *ℤ z) (sym parts ∙ mul_comm_ℤ q (pos g))
      ∙ sym (mul_assoc_ℤ (value_of c (numbers_of leaf)) (pos g) q)
      ∙ (λ i. value_times i *ℤ sym made.q i)
