-- A leaf that is closed: its lists, its numbers, and its places.
use Rattle.std.proofs.Common.{◌≡◌, ℕ, ◌<◌, ◌≤◌, not, Bool, true, false, cond, List, [], ◌∷◌, length, refl, sym, ap, subst, ◌∙◌, arith, Some, ℤ, pos, ◌+ℤ◌, ◌<ℤ◌}
use Rattle.std.specs.Prelude.{All, Contains, filter, slice_get, unsigned_abs}
use Rattle.std.specs.Ordering.{nat_cmp, int_eq}
use Rattle.std.specs.declared.cmp.Ordering.TheVariants.{Less}
use Rattle.std.specs.Map.{keys_of, values_of}
use Rattle.std.specs.List.{AllByRecursion}
use Rattle.std.specs.List.Sorted.{IsStrictlySortedBy}
use Rattle.std.proofs.lemmas.Int.{ints}
use Rattle.std.proofs.lemmas.Bool.Decides.{nat_tests}
use Rattle.station.proofs.Lists.{Every, Rising, every-at, every-filter, rising-filter}
use Rattle.patterns.proofs.Bounds.{all_from_places}
use Rattle.patterns.specs.Allowed.{FitsBook, Lists, list_of}
use Rattle.pair_prices.specs.Case.{CaseRecord}
use Rattle.pair_prices.specs.Trains.{TrainPair}
use Rattle.leaf_bounds.specs.declared.leaf.Leaf.{Leaf}
use Rattle.leaf_bounds.specs.declared.number.TrainValue.{TrainValue}
use Rattle.leaf_bounds.specs.declared.number.MinuteValue.{MinuteValue}
use Rattle.leaf_bounds.specs.declared.number.PairValue.{PairValue}
use Rattle.leaf_bounds.specs.Group.{Group}
use Rattle.leaf_bounds.specs.Listed.{AreLeafLists, Ascends, IsPairValue, is_at, pair_key, pair_listed, u_listed, v_listed}
use Rattle.leaf_bounds.specs.Shown.{ArePlaces, IsPairThere, numbers_of}
use Rattle.leaf_bounds.specs.Total.{only_if}
use Rattle.leaf_bounds.proofs.RisingLemmas.{Before, ascends_from, every_from}
use Rattle.proof_check.specs.declared.leaf.OpenLeaf.{OpenLeaf}
use Rattle.proof_check.specs.declared.side.Side.{Side}
use Rattle.proof_check.specs.declared.side.Side.TheVariants.{First, Second}
use Rattle.proof_check.specs.Open.{IsClosed, IsLeaf, leaf_of, numbers_so_far}
use Rattle.proof_check.specs.Sums.{AreKeyed, AreListed, IsKeyed, IsListed, Sums, is_some_entry, some_entries}
use Rattle.proof_check.proofs.LeafFacts.{listed_in}
use Rattle.proof_check.proofs.SumLemmas.{Entry}

-- what holds of each entry holds of the values
values_every : (P : Entry → Type 0) (Q : PairValue → Type 0) → ((e : Entry) → P e → Q e.1) → (es : List Entry) → Every P es → Every Q (values_of es)
values_every P Q f [] h = tt
values_every P Q f (e ∷ es) h = (f e h.0, values_every P Q f es h.1)

-- the values ascend
values_behind : (k : ℕ) (x : PairValue) (es : List Entry) → pair_key x ≡ k → Every IsKeyed es → AllByRecursion (λ m. nat_cmp k m ≡ Less) (keys_of es)
    → Every (λ y. pos (pair_key x) <ℤ pos (pair_key y)) (values_of es)
values_behind k x [] e h g = tt
values_behind k x (y ∷ es) e h g = (behind k y.0 (pair_key x) (pair_key y.1) e h.0.place g.0, values_behind k x es e h.1 g.1)
  where
    behind : (a b d f : ℕ) → d ≡ a → f ≡ b → nat_cmp a b ≡ Less → pos d <ℤ pos f
    behind a b d f p q r = let l = less a b r in omega (arith, ints, p, q, l)
      where
        less : (a b : ℕ) → nat_cmp a b ≡ Less → a < b
        less a b r = grind (arith, nat_tests)

values_rise : (es : List Entry) → Every IsKeyed es → IsStrictlySortedBy nat_cmp (keys_of es) → Rising (Before (λ x. pos (pair_key x))) (values_of es)
unfolding IsStrictlySortedBy
values_rise [] h s = tt
values_rise (e ∷ es) h s = (values_behind e.0 e.1 es h.0.place h.1 s.0, values_rise es h.1 s.1)

some_value : (x : PairValue) → is_some_entry x ≡ true → 1 ≤ unsigned_abs x.value
some_value x e = by x.value e
  where
    by : (z : ℤ) → not (int_eq z (pos 0)) ≡ true → 1 ≤ unsigned_abs z
    by z e = grind (arith, ints, nat_tests)

passing_every : (P Q : PairValue → Type 0) → ((x : PairValue) → P x → is_some_entry x ≡ true → Q x) → (xs : List PairValue) → Every P xs → Every Q (filter is_some_entry xs)
passing_every P Q f [] h = tt
passing_every P Q f (x ∷ xs) h = by (is_some_entry x) refl (passing_every P Q f xs h.1)
  where
    by : (b : Bool) → is_some_entry x ≡ b → Every Q (filter is_some_entry xs) → Every Q (cond b (x ∷ filter is_some_entry xs) (filter is_some_entry xs))
    by true e rest = (f x h.0 e, rest)
    by false e rest = rest

-- the entries that aren't 0 are a leaf's entries
pub some_each : (m : Sums) → AreKeyed m → (i : ℕ) (x : PairValue) → slice_get (some_entries m) i ≡ Some x → IsPairValue x
some_each m h =
    every-at IsPairValue (some_entries m)
    (passing_every (λ x. IsKeyed (pair_key x, x)) IsPairValue
    (λ x k e. record { first = omega (arith, k.order, k.second); second = k.second; number = k.number; value = k.small; some = some_value x e })
    (values_of m.entries)
    (values_every IsKeyed (λ x. IsKeyed (pair_key x, x))
    (λ e k. record { place = refl; order = k.order; second = k.second; number = k.number; small = k.small }) m.entries (every_from IsKeyed m.entries h.each)))

pub some_ascend : (m : Sums) → AreKeyed m → Ascends (λ x. pos (pair_key x)) (some_entries m)
some_ascend m h =
    ascends_from (λ x. pos (pair_key x)) (some_entries m)
    (rising-filter (Before (λ x. pos (pair_key x))) is_some_entry (values_of m.entries)
    (values_rise m.entries (every_from IsKeyed m.entries h.each) h.ordered))

-- The leaf's lists, with the sums.
pub closed_lists : (q r : ℤ) (u us : List TrainValue) (v vs : List MinuteValue) (alpha beta xs ys : List PairValue) (a b : Sums)
    → AreLeafLists q u v alpha beta → AreKeyed a → AreKeyed b → r ≡ q → us ≡ u → vs ≡ v → xs ≡ some_entries a → ys ≡ some_entries b → AreLeafLists r us vs xs ys
closed_lists q r u us v vs alpha beta xs ys a b k ka kb er eu ev ea eb =
    let all : AreLeafLists q u v (some_entries a) (some_entries b) =
    record {
      q_least = k.q_least;
      q_most = k.q_most;
      u_each = k.u_each;
      v_each = k.v_each;
      alpha_each = some_each a ka;
      beta_each = some_each b kb;
      u_ascends = k.u_ascends;
      v_ascends = k.v_ascends;
      alpha_ascends = some_ascend a ka;
      beta_ascends = some_ascend b kb;
    } in
    subst (λ (z : ℤ). AreLeafLists z us vs xs ys) (sym er)
    (subst (λ (zs : List TrainValue). AreLeafLists q zs vs xs ys) (sym eu)
    (subst (λ (zs : List MinuteValue). AreLeafLists q u zs xs ys) (sym ev)
    (subst (λ (zs : List PairValue). AreLeafLists q u v zs ys) (sym ea) (subst (λ (zs : List PairValue). AreLeafLists q u v (some_entries a) zs) (sym eb) all))))

-- an entry of 0 counts nothing
some_listed : (p : TrainPair) (i : ℕ) (xs : List PairValue) → pair_listed (filter is_some_entry xs) p i ≡ pair_listed xs p i
some_listed p i [] = refl
some_listed p i (x ∷ xs) = by (is_some_entry x) refl (some_listed p i xs)
  where
    zero_value : (z : ℤ) → not (int_eq z (pos 0)) ≡ false → z ≡ pos 0
    zero_value z e = grind (arith, ints, nat_tests)

    nothing : (t : Bool) (z w : ℤ) → z ≡ pos 0 → w ≡ only_if t z +ℤ w
    nothing true z w e = omega (arith, ints, e)
    nothing false z w e = omega (arith, ints)

    by : (b : Bool) → is_some_entry x ≡ b → pair_listed (filter is_some_entry xs) p i ≡ pair_listed xs p i
        → pair_listed (cond b (x ∷ filter is_some_entry xs) (filter is_some_entry xs)) p i ≡ pair_listed (x ∷ xs) p i
    by true e rest = ap (λ z. only_if (is_at p i x) x.value +ℤ z) rest
    by false e rest = rest ∙ nothing (is_at p i x) x.value (pair_listed xs p i) (zero_value x.value e)

-- where all entries are in the lists, so is each that isn't 0
some_places : (P : PairValue → Type 0) (lists : Lists) (side : Side) (m : Sums) → ((x : PairValue) → x.first < x.second → IsListed lists side x → P x)
    → AreKeyed m → AreListed lists side m → All P (some_entries m)
some_places P lists side m f h g =
    all_from_places P (some_entries m)
    (every-at P (some_entries m)
    (every-filter P is_some_entry (values_of m.entries)
    (values_every (λ e. (e.1.first < e.1.second) × IsListed lists side e.1) P (λ e k. f e.1 k.0 k.1) m.entries
    (every_from (λ (e : Entry). (e.1.first < e.1.second) × IsListed lists side e.1) m.entries (λ k e q. ((h.each k e q).order, g k e q))))))

module _ (c : CaseRecord) (groups : List Group) (lists : Lists) (o : OpenLeaf) (l : Leaf) (h : IsLeaf c groups lists o) (closed : IsClosed o l)
    (fits : FitsBook lists c.book) where
  -- the leaf's numbers are those so far
  pub closed_numbers : numbers_of l ≡ numbers_so_far groups lists (leaf_of o)
  closed_numbers = λ k. record {
    q = closed.q k;
    u = u_listed (closed.u k);
    v = v_listed (closed.v k);
    alpha = λ p i. alpha_is p i k;
    beta = λ p i. beta_is p i k;
  }
    where
      alpha_is : (p : TrainPair) (i : ℕ) → pair_listed l.alpha p i ≡ (numbers_so_far groups lists (leaf_of o)).alpha p i
      alpha_is p i = ap (λ (xs : List PairValue). pair_listed xs p i) closed.alpha ∙ some_listed p i (values_of o.alpha.sums.entries) ∙ h.alpha p i

      beta_is : (p : TrainPair) (i : ℕ) → pair_listed l.beta p i ≡ (numbers_so_far groups lists (leaf_of o)).beta p i
      beta_is p i = ap (λ (xs : List PairValue). pair_listed xs p i) closed.beta ∙ some_listed p i (values_of o.beta.sums.entries) ∙ h.beta p i

  there_of : (side : Side) (x : PairValue) → x.first < x.second → IsListed lists side x → IsPairThere c x
  there_of side x order listed =
      let there = listed.there in
      let size = fits.trains in
      record { order = order; there = omega (arith, there, size) }

  pub closed_places : ArePlaces c lists l
  closed_places = record {
    trains = subst (λ (xs : List TrainValue). All (λ x. x.train < length c.book) xs) (sym closed.u) h.trains;
    platforms = subst (λ (xs : List MinuteValue). All (λ x. x.platform < length c.station.platforms) xs) (sym closed.v) h.platforms;
    alpha_pairs = subst (λ (xs : List PairValue). All (IsPairThere c) xs) (sym closed.alpha)
        (some_places (IsPairThere c) lists First o.alpha.sums (λ x order g. there_of First x order g) h.alpha_keyed h.alpha_listed);
    alpha_numbers = subst (λ (xs : List PairValue). All (λ x. Contains (list_of lists x.first) x.number) xs) (sym closed.alpha)
        (some_places (λ x. Contains (list_of lists x.first) x.number) lists First o.alpha.sums
        (λ x order g. listed_in (list_of lists x.first) x.number g.listed) h.alpha_keyed h.alpha_listed);
    beta_pairs = subst (λ (xs : List PairValue). All (IsPairThere c) xs) (sym closed.beta)
        (some_places (IsPairThere c) lists Second o.beta.sums (λ x order g. there_of Second x order g) h.beta_keyed h.beta_listed);
    beta_numbers = subst (λ (xs : List PairValue). All (λ x. Contains (list_of lists x.second) x.number) xs) (sym closed.beta)
        (some_places (λ x. Contains (list_of lists x.second) x.number) lists Second o.beta.sums
        (λ x order g. listed_in (list_of lists x.second) x.number g.listed) h.beta_keyed h.beta_listed);
  }
