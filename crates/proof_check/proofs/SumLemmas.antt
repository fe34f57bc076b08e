-- Sums of potentials: what an entry that is put changes, and what stands at a place.
use Rattle.std.proofs.Common.{◌≡◌, ℕ, ◌<◌, ◌≤◌, ◌==◌, ◌&&◌, Bool, true, false, List, [], ◌∷◌, refl, sym, ap, subst, ◌∙◌, arith, Some, None, Option, ℤ, pos, ◌+ℤ◌, ◌*ℤ◌}
use Rattle.std.specs.Prelude.{unsigned_abs, ◌^◌}
use Rattle.std.specs.Ordering.{nat_cmp, is_eq}
use Rattle.std.specs.declared.cmp.Ordering.{Ordering}
use Rattle.std.specs.declared.cmp.Ordering.TheVariants.{Less, Equal, Greater}
use Rattle.std.specs.Cmp.{nat_cmp_total}
use Rattle.std.specs.BTreeMap.{insert_entry, is_at as key_test}
use Rattle.std.specs.Map.{keys_of, values_of, lookup}
use Rattle.std.specs.List.{AllByRecursion}
use Rattle.std.specs.List.Sorted.{IsStrictlySortedBy}
use Rattle.std.proofs.lemmas.Int.{ints}
use Rattle.std.proofs.lemmas.Bool.Decides.{nat_tests}
use Rattle.std.proofs.lemmas.Map.{lookup-none}
use Rattle.std.proofs.lemmas.Map.Entries.{none_below_head, place_from_lookup}
use Rattle.std.proofs.lemmas.Map.Lookups.{exact_unsigned}
use Rattle.station.proofs.Lists.{Every, every-at}
use Rattle.patterns.specs.Allowed.{Lists}
use Rattle.pair_prices.specs.Trains.{TrainPair}
use Rattle.leaf_bounds.specs.declared.number.PairValue.{PairValue}
use Rattle.leaf_bounds.specs.Listed.{is_at, pair_key, pair_listed, IsSmall}
use Rattle.leaf_bounds.specs.Places.{key_at}
use Rattle.leaf_bounds.specs.Total.{only_if, total}
use Rattle.leaf_bounds.proofs.PlaceLemmas.{off}
use Rattle.leaf_bounds.proofs.RisingLemmas.{every_from}
use Rattle.proof_check.specs.declared.side.Side.{Side}
use Rattle.proof_check.specs.declared.side.Side.TheVariants.{First, Second}
use Rattle.proof_check.specs.Sums.{Sums, AddsEntry, AreKeyed, AreListed, IsKeyed, IsListed, IsOver, sum_at, value_at, value_in}

abbrev pub Entry : Type 0
Entry = ℕ × PairValue

-- what a number adds where there is an entry
abbrev pub in_entry : (PairValue → ℤ) → Option PairValue → ℤ
in_entry f None = pos 0
in_entry f (Some y) = f y

below_head : (e : Entry) (es : List Entry) → IsStrictlySortedBy nat_cmp (keys_of (e ∷ es)) → AllByRecursion (λ k. nat_cmp e.0 k ≡ Less) (keys_of es)
unfolding IsStrictlySortedBy
below_head e es h = h.0

pub sorted_tail : (e : Entry) (es : List Entry) → IsStrictlySortedBy nat_cmp (keys_of (e ∷ es)) → IsStrictlySortedBy nat_cmp (keys_of es)
unfolding IsStrictlySortedBy
sorted_tail e es h = h.1

-- The total with the entry, and what stood in its place.
pub total-insert : (f : PairValue → ℤ) (es : List Entry) (k : ℕ) (x : PairValue) → IsStrictlySortedBy nat_cmp (keys_of es)
    → total f (values_of (insert_entry nat_cmp es k x)) +ℤ in_entry f (lookup (key_test (nat_cmp k)) es) ≡ total f (values_of es) +ℤ f x
total-insert f [] k x h = omega (arith, ints)
total-insert f (e ∷ es) k x h = by_order (nat_cmp k e.0) refl (total-insert f es k x (sorted_tail e es h))
  where
    by_order : (o : Ordering) → nat_cmp k e.0 ≡ o
        → total f (values_of (insert_entry nat_cmp es k x)) +ℤ in_entry f (lookup (key_test (nat_cmp k)) es) ≡ total f (values_of es) +ℤ f x
        → total f (values_of (insert_entry nat_cmp (e ∷ es) k x)) +ℤ in_entry f (lookup (key_test (nat_cmp k)) (e ∷ es)) ≡ total f (values_of (e ∷ es)) +ℤ f x
    by_order Less q rest =
        let none = lookup-none (key_test (nat_cmp k)) (e ∷ es) (none_below_head nat_cmp_total k e es h q) in
        rw (none, q) (omega (arith, ints))
    by_order Equal q rest = rw q (omega (arith, ints))
    by_order Greater q rest = rw q (omega (arith, ints, rest))

-- What holds of the entry and of all others holds with it.
pub every-insert : (P : Entry → Type 0) (es : List Entry) (k : ℕ) (x : PairValue) → Every P es → P (k, x) → Every P (insert_entry nat_cmp es k x)
every-insert P [] k x h p = (p, tt)
every-insert P (e ∷ es) k x h p = by_order (nat_cmp k e.0) refl (every-insert P es k x h.1 p)
  where
    by_order : (o : Ordering) → nat_cmp k e.0 ≡ o → Every P (insert_entry nat_cmp es k x) → Every P (insert_entry nat_cmp (e ∷ es) k x)
    by_order Less q rest = rw q (p, h)
    by_order Equal q rest =
        let same : k ≡ e.0 = exact_unsigned k e.0 q in
        rw q (subst (λ (n : ℕ). P (n, x)) same p, h.1)
    by_order Greater q rest = rw q (h.0, rest)

-- one place is of one pattern of one pair
pub record IsSamePlace (x : PairValue) (s t n : ℕ) : Type 0 where
  pub first : x.first ≡ s
  pub second : x.second ≡ t
  pub number : x.number ≡ n

pub one_place : (x : PairValue) (s t n : ℕ) → x.second < 200 → t < 200 → x.number < 4096 → n < 4096 → pair_key x ≡ key_at s t n → IsSamePlace x s t n
one_place x s t n a b d e q = record { first = omega (arith, q, a, b, d, e); second = omega (arith, q, a, b, d, e); number = omega (arith, q, a, b, d, e) }

eqb-refl : (m n : ℕ) → m ≡ n → (m == n) ≡ true
eqb-refl m n e = grind (arith, nat_tests)

pub at_it : (p : TrainPair) (i : ℕ) (x : PairValue) → IsSamePlace x p.first p.second i → is_at p i x ≡ true
at_it p i x h = all (x.first == p.first) (x.second == p.second) (x.number == i) (eqb-refl x.first p.first h.first) (eqb-refl x.second p.second h.second) (eqb-refl x.number i h.number)
  where
    all : (a b d : Bool) → a ≡ true → b ≡ true → d ≡ true → (a && b && d) ≡ true
    all true true true e f g = refl
    all true true false e f g = g
    all true false d e f g = f
    all false b d e f g = e

-- an entry of the same place is looked at alike
same_test : (p : TrainPair) (i : ℕ) (x y : PairValue) → IsSamePlace y x.first x.second x.number → is_at p i y ≡ is_at p i x
same_test p i x y h =
    ap (λ n. n == p.first && y.second == p.second && y.number == i) h.first
    ∙ ap (λ n. x.first == p.first && n == p.second && y.number == i) h.second
    ∙ ap (λ n. x.first == p.first && x.second == p.second && n == i) h.number

key_equal : (k m : ℕ) → key_test (nat_cmp k) m ≡ true → k ≡ m
key_equal k m e = exact_unsigned k m (by (nat_cmp k m) e)
  where
    by : (o : Ordering) → is_eq o ≡ true → o ≡ Equal
    by Less f = absurd (cc)
    by Equal f = refl
    by Greater f = absurd (cc)

-- the entry that is found at a place
pub found_keyed : (m : Sums) → AreKeyed m → (k : ℕ) (y : PairValue) → lookup (key_test (nat_cmp k)) m.entries ≡ Some y → (pair_key y ≡ k) × IsKeyed (k, y)
found_keyed m h k y e =
    let f = place_from_lookup (key_test (nat_cmp k)) m.entries y e in
    let i = f.0 in
    let key = f.1 in
    let same : k ≡ key = key_equal k key f.3 in
    let there : IsKeyed (key, y) = h.each i (key, y) f.2 in
    (there.place ∙ sym same, subst (λ (n : ℕ). IsKeyed (n, y)) (sym same) there)

-- the number at a place is small
pub value_small : (m : Sums) → AreKeyed m → (k : ℕ) → IsSmall (value_at m k)
value_small m h k = by (lookup (key_test (nat_cmp k)) m.entries) refl
  where
    by : (o : Option PairValue) → lookup (key_test (nat_cmp k)) m.entries ≡ o → IsSmall (value_in o)
    by None e = omega arith
    by (Some y) e = ((found_keyed m h k y e).1).small

-- The number that stands in an entry's place counts wherever the entry does.
in_place : (m : Sums) → AreKeyed m → (p : TrainPair) (i : ℕ) (x : PairValue) → x.second < 200 → x.number < 4096
    → in_entry (λ y. only_if (is_at p i y) y.value) (lookup (key_test (nat_cmp (pair_key x))) m.entries) ≡ only_if (is_at p i x) (value_at m (pair_key x))
in_place m h p i x a b = by (lookup (key_test (nat_cmp (pair_key x))) m.entries) refl
  where
    none : (t : Bool) → pos 0 ≡ only_if t (pos 0)
    none true = refl
    none false = refl

    by : (o : Option PairValue) → lookup (key_test (nat_cmp (pair_key x))) m.entries ≡ o
        → in_entry (λ y. only_if (is_at p i y) y.value) o ≡ only_if (is_at p i x) (value_in o)
    by None e = none (is_at p i x)
    by (Some y) e =
        let f = found_keyed m h (pair_key x) y e in
        ap (λ t. only_if t y.value) (same_test p i x y (one_place y x.first x.second x.number f.1.second a f.1.number b f.0))

-- what an entry that is put changes
pub sum_put : (old new : Sums) → AreKeyed old → (x : PairValue) → x.second < 200 → x.number < 4096
    → new.entries ≡ insert_entry nat_cmp old.entries (pair_key x) x → (p : TrainPair) (i : ℕ)
    → sum_at new p i +ℤ only_if (is_at p i x) (value_at old (pair_key x)) ≡ sum_at old p i +ℤ only_if (is_at p i x) x.value
sum_put old new h x a b e p i =
    ap (λ es. pair_listed (values_of es) p i +ℤ only_if (is_at p i x) (value_at old (pair_key x))) e
    ∙ ap (λ z. pair_listed (values_of (insert_entry nat_cmp old.entries (pair_key x) x)) p i +ℤ z) (sym (in_place old h p i x a b))
    ∙ total-insert (λ y. only_if (is_at p i y) y.value) old.entries (pair_key x) x h.ordered

pub keyed_put : (old new : Sums) → AreKeyed old → (x : PairValue) → x.first < x.second → x.second < 200 → x.number < 4096 → IsSmall x.value
    → new.entries ≡ insert_entry nat_cmp old.entries (pair_key x) x → IsStrictlySortedBy nat_cmp (keys_of new.entries) → AreKeyed new
keyed_put old new h x o a b s e sorted = record {
  each = every-at IsKeyed new.entries (subst (λ (es : List Entry). Every IsKeyed es) (sym e)
      (every-insert IsKeyed old.entries (pair_key x) x (every_from IsKeyed old.entries h.each)
      (record { place = refl; order = o; second = a; number = b; small = s })));
  ordered = sorted;
}

pub listed_put : (old new : Sums) (x : PairValue) (lists : Lists) (side : Side) → AreListed lists side old → IsListed lists side x
    → new.entries ≡ insert_entry nat_cmp old.entries (pair_key x) x → AreListed lists side new
listed_put old new x lists side h l e =
    every-at (λ y. IsListed lists side y.1) new.entries (subst (λ (es : List Entry). Every (λ y. IsListed lists side y.1) es) (sym e)
    (every-insert (λ y. IsListed lists side y.1) old.entries (pair_key x) x (every_from (λ y. IsListed lists side y.1) old.entries h) l))

-- a pattern at whose place no entry stands
none_at : (p : TrainPair) (i k : ℕ) (es : List Entry) → k ≡ key_at p.first p.second i → Every IsKeyed es
    → AllByRecursion (λ m. nat_cmp k m ≡ Less) (keys_of es) → pair_listed (values_of es) p i ≡ pos 0
none_at p i k [] e h g = refl
none_at p i k (y ∷ es) e h g =
    let less : k < y.0 = less_from k y.0 g.0 in
    let place = h.0.place in
    let here : only_if (is_at p i y.1) y.1.value ≡ pos 0 = ap (λ b. only_if b y.1.value) (off p i y.1 (λ f. omega (arith, less, place, f, e))) in
    let rest = none_at p i k es e h.1 g.1 in
    omega (arith, ints, here, rest)
  where
    less_from : (a b : ℕ) → nat_cmp a b ≡ Less → a < b
    less_from a b e = grind (arith, nat_tests)

-- The sum at a pattern stands at its place.
module _ (p : TrainPair) (i : ℕ) (second : p.second < 200) (number : i < 4096) where
  sum_found : (es : List Entry) → Every IsKeyed es → IsStrictlySortedBy nat_cmp (keys_of es)
      → pair_listed (values_of es) p i ≡ value_in (lookup (key_test (nat_cmp (key_at p.first p.second i))) es)
  sum_found [] h s = refl
  sum_found (y ∷ es) h s = by_order (nat_cmp (key_at p.first p.second i) y.0) refl (sum_found es h.1 (sorted_tail y es s))
    where
      apart : (o : Ordering) → nat_cmp (key_at p.first p.second i) y.0 ≡ o → is_eq o ≡ false → key_at p.first p.second i ≡ y.0 → ⊥
      apart o q f e = grind (arith, nat_tests)

      passed : (o : Ordering) → nat_cmp (key_at p.first p.second i) y.0 ≡ o → is_eq o ≡ false
          → pair_listed (values_of es) p i ≡ value_in (lookup (key_test (nat_cmp (key_at p.first p.second i))) es)
          → pair_listed (values_of (y ∷ es)) p i ≡ value_in (lookup (key_test (nat_cmp (key_at p.first p.second i))) es)
      passed o q f rest =
          let here : only_if (is_at p i y.1) y.1.value ≡ pos 0 = ap (λ b. only_if b y.1.value) (off p i y.1 (λ e. apart o q f (sym e ∙ h.0.place))) in
          omega (arith, ints, here, rest)

      by_order : (o : Ordering) → nat_cmp (key_at p.first p.second i) y.0 ≡ o
          → pair_listed (values_of es) p i ≡ value_in (lookup (key_test (nat_cmp (key_at p.first p.second i))) es)
          → pair_listed (values_of (y ∷ es)) p i ≡ value_in (lookup (key_test (nat_cmp (key_at p.first p.second i))) (y ∷ es))
      by_order Less q rest = rw q (passed Less q refl rest)
      by_order Equal q rest =
          let same : key_at p.first p.second i ≡ y.0 = exact_unsigned (key_at p.first p.second i) y.0 q in
          let it = at_it p i y.1 (one_place y.1 p.first p.second i h.0.second second h.0.number number (h.0.place ∙ sym same)) in
          let here : only_if (is_at p i y.1) y.1.value ≡ y.1.value = ap (λ b. only_if b y.1.value) it in
          let none = none_at p i y.0 es (sym same) h.1 (below_head y es s) in
          rw q (omega (arith, ints, here, none))
      by_order Greater q rest = rw q (passed Greater q refl rest)

  pub sum_is_value : (m : Sums) → AreKeyed m → sum_at m p i ≡ value_at m (key_at p.first p.second i)
  sum_is_value m h = sum_found m.entries (every_from IsKeyed m.entries h.each) h.ordered

abbrev with_value : PairValue → ℤ → PairValue
with_value x z = record { first = x.first; second = x.second; number = x.number; value = z }

listed_with : (lists : Lists) (side : Side) (x : PairValue) (z : ℤ) → IsListed lists side x → IsListed lists side (with_value x z)
listed_with lists First x z l = record { there = l.there; listed = l.listed }
listed_with lists Second x z l = record { there = l.there; listed = l.listed }

step : (t : Bool) (new old v w z : ℤ) → new +ℤ only_if t v ≡ old +ℤ only_if t z → z ≡ w +ℤ v → new ≡ old +ℤ only_if t w
step true n m v w z f g = omega (arith, ints, f, g)
step false n m v w z f g = omega (arith, ints, f)

-- An entry is added, times the factor.
pub adds_entry : (old new : Sums) → AreKeyed old → (x : PairValue) (factor z : ℤ) → x.first < x.second → x.second < 200 → x.number < 4096
    → z ≡ factor *ℤ x.value +ℤ value_at old (pair_key x) → IsSmall z
    → new.entries ≡ insert_entry nat_cmp old.entries (pair_key x) (with_value x z) → IsStrictlySortedBy nat_cmp (keys_of new.entries)
    → AddsEntry x factor old new
adds_entry old new h x factor z o a b is s q sorted = record {
  sums = λ p i. step (is_at p i x) (sum_at new p i) (sum_at old p i) (value_at old (pair_key x)) (factor *ℤ x.value) z
      (sum_put old new h (with_value x z) a b q p i) is;
  keyed = keyed_put old new h (with_value x z) o a b s q sorted;
  listed = λ lists side g l. listed_put old new (with_value x z) lists side g (listed_with lists side x z l) q;
}

-- With the entry the sum would be too large.
pub entry_over : (old : Sums) → AreKeyed old → (x : PairValue) (factor : ℤ) → x.second < 200 → x.number < 4096
    → 10 ^ 30 < unsigned_abs (factor *ℤ x.value +ℤ value_at old (pair_key x))
    → IsOver old (record { first = x.first; second = x.second }) x.number (factor *ℤ x.value)
entry_over old h x factor a b over small =
    apart (factor *ℤ x.value) (value_at old (pair_key x)) over
    (subst (λ (z : ℤ). IsSmall (z +ℤ factor *ℤ x.value)) (sum_is_value (record { first = x.first; second = x.second }) x.number a b old h) small)
  where
    apart : (v w : ℤ) → 10 ^ 30 < unsigned_abs (v +ℤ w) → unsigned_abs (w +ℤ v) ≤ 10 ^ 30 → ⊥
    apart v w l m = omega (arith, ints, l, m)
