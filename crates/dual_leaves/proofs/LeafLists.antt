-- The lists of the leaf of an account keep the limits and the order of a leaf.
use Rattle.std.proofs.Common.{◌≡◌, ◌≢◌, ℕ, zero, suc, ◌+◌, ◌*◌, ◌<◌, ◌≤◌, List, length, get_or, Some, Ordering, refl, sym, subst, arith, ℤ, pos, negsuc, ◌+ℤ◌, ◌≤ℤ◌, ◌<ℤ◌, unsigned_abs, int_div}
use Rattle.std.specs.Prelude.{slice_get}
use Rattle.std.specs.List.{All}
use Rattle.std.specs.List.Sorted.{IsStrictlySortedBy}
use Rattle.std.specs.Map.{keys_of, values_of}
use Rattle.std.specs.Ordering.{nat_cmp, int_cmp, ordering_then}
use Rattle.std.specs.declared.cmp.Ordering.TheVariants.{Less, Equal, Greater}
use Rattle.std.proofs.lemmas.Int.{ints}
use Rattle.std.proofs.lemmas.Cmp.{ranked, int_ranked}
use Rattle.std.proofs.lemmas.List.Elements.{All-weaker}
use Rattle.station.proofs.Lists.{every-at}
use Rattle.patterns.specs.Allowed.{list_of}
use Rattle.pair_prices.specs.Case.{CaseRecord, IsCase}
use Rattle.pattern_pricing.specs.Layout.{LayoutRecord}
use Rattle.pattern_pricing.specs.Prices.{IsLayoutOf}
use Rattle.leaf_bounds.specs.declared.number.TrainValue.{TrainValue}
use Rattle.leaf_bounds.specs.declared.number.MinuteValue.{MinuteValue}
use Rattle.leaf_bounds.specs.declared.number.PairValue.{PairValue}
use Rattle.leaf_bounds.specs.Listed.{AreLeafLists, IsMinuteValue, IsPairValue, IsSmall, IsTrainValue, minute_key, pair_key}
use Rattle.leaf_bounds.proofs.RisingLemmas.{ascends_from}
use Rattle.leaf_bounds.proofs.RowLemmas.{offers_few}
use Rattle.dual_leaves.specs.declared.key.MinuteKey.{MinuteKey}
use Rattle.dual_leaves.specs.declared.key.PairKey.{PairKey}
use Rattle.dual_leaves.specs.declared.key.Side.{Side}
use Rattle.dual_leaves.specs.declared.key.Side.TheVariants.{First, Second}
use Rattle.dual_leaves.specs.Account.{IsKept, IsMinuteKey, IsPairKey, Totals}
use Rattle.dual_leaves.specs.Divided.{AreSmall, minute_value, pair_value, quotients, train_value}
use Rattle.dual_leaves.specs.Made.{AreSizes}
use Rattle.dual_leaves.specs.Orders.{minute_order, pair_order}
use Rattle.dual_leaves.proofs.Quotients.{quotients_every, quotients_rise}

nat_less : (a b : ℕ) → nat_cmp a b ≡ Less → a < b
nat_less a b e = ranked a b Less (sym e)

nat_same : (a b : ℕ) → nat_cmp a b ≡ Equal → a ≡ b
nat_same a b e = ranked a b Equal (sym e)

int_less : (a b : ℤ) → int_cmp a b ≡ Less → a <ℤ b
int_less a b e = int_ranked a b Less (sym e)

some_size : (z : ℤ) → z ≢ pos 0 → 1 ≤ unsigned_abs z
some_size (pos zero) h = absurd (h refl)
some_size (pos (suc n)) h = omega arith
some_size (negsuc n) h = omega arith

-- ---- keys in order have ascending places
minute_less : (l : LayoutRecord) (a b : MinuteKey) (y z : ℤ) → IsMinuteKey l a → IsMinuteKey l b → minute_order a b ≡ Less
    → minute_key (minute_value a y) <ℤ minute_key (minute_value b z)
minute_less l a b y z p q = by (nat_cmp a.platform b.platform) refl
  where
    by : (o : Ordering) → nat_cmp a.platform b.platform ≡ o → ordering_then o (int_cmp a.minute b.minute) ≡ Less
        → (pos (10_000 * a.platform) +ℤ a.minute) <ℤ (pos (10_000 * b.platform) +ℤ b.minute)
    by Less e f =
        let less = nat_less a.platform b.platform e in
        let most = p.last in
        let least = q.first in
        omega (arith, ints, less, most, least)
    by Equal e f =
        let same = nat_same a.platform b.platform e in
        let less = int_less a.minute b.minute f in
        omega (arith, ints, same, less)
    by Greater e f = cc

-- numbers that leave the order of places to the parts
record IsInRange (k : PairKey) : Type 0 where
  first : k.first < 200
  second : k.second < 200
  number : k.number < 4096

pair_less : (a b : PairKey) (y z : ℤ) → IsInRange a → IsInRange b → pair_order a b ≡ Less → pos (pair_key (pair_value a y)) <ℤ pos (pair_key (pair_value b z))
pair_less a b y z p q = by (nat_cmp a.first b.first) (nat_cmp a.second b.second) refl refl
  where
    by : (o r : Ordering) → nat_cmp a.first b.first ≡ o → nat_cmp a.second b.second ≡ r → ordering_then o (ordering_then r (nat_cmp a.number b.number)) ≡ Less
        → pos ((200 * a.first + a.second) * 4096 + a.number) <ℤ pos ((200 * b.first + b.second) * 4096 + b.number)
    by Less r e f h =
        let less = nat_less a.first b.first e in
        let s = p.second in
        let n = p.number in
        omega (arith, ints, less, s, n)
    by Equal Less e f h =
        let same = nat_same a.first b.first e in
        let less = nat_less a.second b.second f in
        let n = p.number in
        omega (arith, ints, same, less, n)
    by Equal Equal e f h =
        let same = nat_same a.first b.first e in
        let also = nat_same a.second b.second f in
        let less = nat_less a.number b.number h in
        omega (arith, ints, same, also, less)
    by Equal Greater e f h = cc
    by Greater r e f h = cc

-- a number that isn't below 0, divided
quotient_least : (z d : ℤ) → pos 0 ≤ℤ z → pos 0 <ℤ d → pos 0 ≤ℤ int_div z d
quotient_least (pos a) (pos d) h k = omega (arith, ints)
quotient_least (negsuc a) d h k = absurd (omega (arith, ints, h))
quotient_least (pos a) (negsuc d) h k = absurd (omega (arith, ints, k))

module _ (c : CaseRecord) (case : IsCase c) (l : LayoutRecord) (layout : IsLayoutOf c l) (a : Totals) (kept : IsKept l a) (q d : ℤ) (above : pos 0 <ℤ q)
    (divisor : pos 0 <ℤ d) (sizes : AreSizes q d a) where
  few : length l.lists ≤ 200
  few = let most = case.book.trains in omega (arith, most, layout.lists.trains)

  in_range : (side : Side) (k : PairKey) → IsPairKey l side k → IsInRange k
  in_range First k h = by h.listed
    where
      by : (n : ℕ) × (n < length (list_of l.lists k.first)) × (get_or (list_of l.lists k.first) n k.number ≡ k.number) → IsInRange k
      by m =
          let order = h.order in
          let there = h.there in
          let t : k.first < length c.book = omega (arith, order, there, layout.lists.trains) in
          let most = offers_few c.book k.first case.book t in
          let inside = layout.lists.there k.first (omega (arith, order, there)) m.0 k.number m.1 in
          let same = m.2 in
          record { first = omega (arith, order, there, few); second = omega (arith, there, few); number = omega (arith, most, inside, same) }
  in_range Second k h = by h.listed
    where
      by : (n : ℕ) × (n < length (list_of l.lists k.second)) × (get_or (list_of l.lists k.second) n k.number ≡ k.number) → IsInRange k
      by m =
          let order = h.order in
          let there = h.there in
          let t : k.second < length c.book = omega (arith, there, layout.lists.trains) in
          let most = offers_few c.book k.second case.book t in
          let inside = layout.lists.there k.second there m.0 k.number m.1 in
          let same = m.2 in
          record { first = omega (arith, order, there, few); second = omega (arith, there, few); number = omega (arith, most, inside, same) }

  pairs_in : (side : Side) (es : List (PairKey × ℤ)) → All (IsPairKey l side) (keys_of es) → All IsInRange (keys_of es)
  pairs_in side es h = All-weaker (IsPairKey l side) IsInRange (in_range side) (keys_of es) h

  pub leaf_lists : IsStrictlySortedBy nat_cmp (keys_of a.u) → IsStrictlySortedBy minute_order (keys_of a.v) → IsStrictlySortedBy pair_order (keys_of a.alpha)
      → IsStrictlySortedBy pair_order (keys_of a.beta)
      → AreLeafLists q (quotients train_value d a.u) (quotients minute_value d a.v) (quotients pair_value d a.alpha) (quotients pair_value d a.beta)
  leaf_lists u_up v_up alpha_up beta_up = record {
    q_least = omega (arith, ints, above);
    q_most = sizes.scale_most;
    u_each = every-at IsTrainValue (quotients train_value d a.u)
        (quotients_every train_value (λ k. k < length l.lists) IsSmall IsTrainValue
        (λ k z m s n. record { train = omega (arith, m, few); value = s; some = some_size z n }) d a.u kept.u sizes.u);
    v_each = every-at IsMinuteValue (quotients minute_value d a.v)
        (quotients_every minute_value (IsMinuteKey l) (λ z. (pos 0 ≤ℤ z) × IsSmall z) IsMinuteValue
        (λ k z m s n.
        let there = m.there in
        let most = case.station.platforms_most in
        let least = s.0 in
        let small = s.1 in
        let some = some_size z n in
        record {
          platform = omega (arith, there, most, layout.platforms);
          first = m.first;
          last = m.last;
          value = omega (arith, ints, least, small);
          some = omega (arith, ints, least, some);
        }) d a.v kept.v (λ k e i. (quotient_least (get_or (values_of a.v) k e) d (kept.v_least k e i) divisor, sizes.v k e i)));
    alpha_each = pairs_each a.alpha (pairs_in First a.alpha kept.alpha) sizes.alpha;
    beta_each = pairs_each a.beta (pairs_in Second a.beta kept.beta) sizes.beta;
    u_ascends = ascends_from (λ x. pos x.train) (quotients train_value d a.u)
        (quotients_rise train_value nat_cmp (λ x. pos x.train) (λ k. k < length l.lists)
        (λ s t y z m n e. let less = nat_less s t e in omega (arith, ints, less)) d a.u u_up kept.u);
    v_ascends = ascends_from minute_key (quotients minute_value d a.v)
        (quotients_rise minute_value minute_order minute_key (IsMinuteKey l) (minute_less l) d a.v v_up kept.v);
    alpha_ascends = ascends_from (λ x. pos (pair_key x)) (quotients pair_value d a.alpha)
        (quotients_rise pair_value pair_order (λ x. pos (pair_key x)) IsInRange pair_less d a.alpha alpha_up (pairs_in First a.alpha kept.alpha));
    beta_ascends = ascends_from (λ x. pos (pair_key x)) (quotients pair_value d a.beta)
        (quotients_rise pair_value pair_order (λ x. pos (pair_key x)) IsInRange pair_less d a.beta beta_up (pairs_in Second a.beta kept.beta));
  }
    where
      pairs_each : (es : List (PairKey × ℤ)) → All IsInRange (keys_of es) → AreSmall d (values_of es)
          → (i : ℕ) (x : PairValue) → slice_get (quotients pair_value d es) i ≡ Some x → IsPairValue x
      pairs_each es p s =
          every-at IsPairValue (quotients pair_value d es)
          (quotients_every pair_value IsInRange IsSmall IsPairValue
          (λ k z m t n. record { first = m.first; second = m.second; number = m.number; value = t; some = some_size z n }) d es p s)

  -- the same of lists that are these
  pub leaf_lists_of : (u : List TrainValue) (v : List MinuteValue) (alpha beta : List PairValue) → u ≡ quotients train_value d a.u → v ≡ quotients minute_value d a.v
      → alpha ≡ quotients pair_value d a.alpha → beta ≡ quotients pair_value d a.beta
      → IsStrictlySortedBy nat_cmp (keys_of a.u) → IsStrictlySortedBy minute_order (keys_of a.v) → IsStrictlySortedBy pair_order (keys_of a.alpha)
      → IsStrictlySortedBy pair_order (keys_of a.beta) → AreLeafLists q u v alpha beta
  leaf_lists_of u v alpha beta eu ev ea eb u_up v_up alpha_up beta_up =
      subst (λ (xs : List TrainValue). AreLeafLists q xs v alpha beta) (sym eu)
      (subst (λ (xs : List MinuteValue). AreLeafLists q (quotients train_value d a.u) xs alpha beta) (sym ev)
      (subst (λ (xs : List PairValue). AreLeafLists q (quotients train_value d a.u) (quotients minute_value d a.v) xs beta) (sym ea)
      (subst (λ (xs : List PairValue). AreLeafLists q (quotients train_value d a.u) (quotients minute_value d a.v) (quotients pair_value d a.alpha) xs) (sym eb)
      (leaf_lists u_up v_up alpha_up beta_up))))
