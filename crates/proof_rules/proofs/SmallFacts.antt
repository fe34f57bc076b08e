-- Numbers of leaves and of their expansions that are at most 10^30 in size.
use Rattle.std.proofs.Common.{◌≡◌, ℕ, ◌+◌, ◌^◌, ◌<◌, ◌≤◌, ◌==◌, ◌&&◌, Bool, true, false, List, [], ◌∷◌, length, get_or, refl, sym, ap, ◌∙◌, subst, arith, inl, inr, ◌⊎◌, Option, Some, None, ℤ, pos, ◌+ℤ◌, ◌*ℤ◌}
use Rattle.std.specs.Prelude.{Contains, slice_get, unsigned_abs}
use Rattle.std.specs.List.{list_all}
use Rattle.std.proofs.lemmas.Int.{ints}
use Rattle.std.proofs.lemmas.Bool.{and_from, and_parts, cases_lt, eq-eqb, eqb-true, le-leb, leb-true, false_from_ne_true}
use Rattle.std.proofs.lemmas.List.Folds.{list_any_at}
use Rattle.std.proofs.lemmas.Map.Views.{Contains-from_any}
use Rattle.patterns.specs.Allowed.{Lists, list_of}
use Rattle.pair_prices.specs.Case.{CaseRecord}
use Rattle.pair_prices.specs.Trains.{TrainPair, train_pairs}
use Rattle.leaf_bounds.specs.declared.number.PairValue.{PairValue}
use Rattle.leaf_bounds.specs.declared.uses.UseOf.{UseOf}
use Rattle.leaf_bounds.specs.Group.{Group}
use Rattle.leaf_bounds.specs.Total.{only_if}
use Rattle.leaf_bounds.specs.Listed.{IsSmall, IsPairValue, Ascends, is_at, number_listed, pair_key, pair_listed}
use Rattle.leaf_bounds.specs.Places.{key_at}
use Rattle.leaf_bounds.specs.Leaf.{LeafRecord}
use Rattle.leaf_bounds.specs.Expansion.{AreSmall, expansion, in_list, is_of, table_alpha, table_beta, used_alpha, used_beta}
use Rattle.leaf_bounds.proofs.Totals.{mul-none_ℤ}
use Rattle.leaf_bounds.proofs.BoundedLemmas.{Each, bounded}
use Rattle.leaf_bounds.proofs.VerdictLemmas.{in_pairs}
use Rattle.proof_rules.specs.Fault.{are_small, is_small}
use Rattle.proof_rules.proofs.TestLemmas.{all_true, passes_in}

-- what is listed at a key is one number, or none
key_is : (p : TrainPair) (i : ℕ) (x : PairValue) → is_at p i x ≡ true → pair_key x ≡ key_at p.first p.second i
key_is p i x e =
    let front = and_parts (x.first == p.first && x.second == p.second) (x.number == i) e in
    let trains = and_parts (x.first == p.first) (x.second == p.second) front.0 in
    let f = eqb-true x.first p.first trains.0 in
    let s = eqb-true x.second p.second trains.1 in
    let n = eqb-true x.number i front.1 in
    omega (arith, f, s, n)

pub listed_small : (p : TrainPair) (i : ℕ) (xs : List PairValue) → Each IsPairValue xs → Ascends (λ x. pos (pair_key x)) xs → IsSmall (pair_listed xs p i)
listed_small p i xs each ascends =
    let key : PairValue → ℤ = λ x. pos (pair_key x) in
    let most = bounded key key (λ x. x.value) (is_at p i) (pos (key_at p.first p.second i + 1)) (λ x y e f l. l) 1 xs ascends
    (λ k x e. (each k x e).value)
    (λ k x e t. let same = key_is p i x t in record { below = omega (arith, ints, same); above = omega (arith, ints, same) }) in
    omega (arith, most)

-- numbers of uses of tables
module _ (p : TrainPair) (i : ℕ) (groups : List Group) (apart : (k : ℕ) (g : Group) → slice_get groups k ≡ Some g → is_of p g ≡ false) where
  none_alpha : (k : ℕ) (o : Option Group) → slice_get groups k ≡ o → table_alpha p i o ≡ pos 0
  none_alpha k None e = refl
  none_alpha k (Some g) e = ap (λ b. only_if b (number_listed g.alpha i)) (apart k g e)

  none_beta : (k : ℕ) (o : Option Group) → slice_get groups k ≡ o → table_beta p i o ≡ pos 0
  none_beta k None e = refl
  none_beta k (Some g) e = ap (λ b. only_if b (number_listed g.beta i)) (apart k g e)

  no_alpha : (uses : List UseOf) → used_alpha groups uses p i ≡ pos 0
  no_alpha [] = refl
  no_alpha (x ∷ uses) =
      let here = ap (λ (z : ℤ). x.factor *ℤ z) (none_alpha x.table (slice_get groups x.table) refl) ∙ mul-none_ℤ x.factor in
      let rest = no_alpha uses in
      omega (arith, ints, here, rest)

  no_beta : (uses : List UseOf) → used_beta groups uses p i ≡ pos 0
  no_beta [] = refl
  no_beta (x ∷ uses) =
      let here = ap (λ (z : ℤ). x.factor *ℤ z) (none_beta x.table (slice_get groups x.table) refl) ∙ mul-none_ℤ x.factor in
      let rest = no_beta uses in
      omega (arith, ints, here, rest)

-- the tests of sizes
small_is : (z : ℤ) → is_small z ≡ true → IsSmall z
small_is z e = leb-true (unsigned_abs z) (10 ^ 30) e

is_small_by : (z : ℤ) → IsSmall z → is_small z ≡ true
is_small_by z h = le-leb (unsigned_abs z) (10 ^ 30) h

pub small_true : (c : CaseRecord) (lists : Lists) (l : LeafRecord) → AreSmall l → are_small c lists l ≡ true
small_true c lists l h =
    all_true (λ p. list_all (λ i. is_small (l.alpha p i)) (list_of lists p.first) && list_all (λ j. is_small (l.beta p j)) (list_of lists p.second))
    (λ p. and_from (list_all (λ i. is_small (l.alpha p i)) (list_of lists p.first)) (list_all (λ j. is_small (l.beta p j)) (list_of lists p.second))
    (all_true (λ i. is_small (l.alpha p i)) (λ i. is_small_by (l.alpha p i) (h.alpha p i)) (list_of lists p.first))
    (all_true (λ j. is_small (l.beta p j)) (λ j. is_small_by (l.beta p j) (h.beta p j)) (list_of lists p.second)))
    (train_pairs (length c.book))

both_small : (c : CaseRecord) (lists : Lists) (l : LeafRecord) → are_small c lists l ≡ true → (p : TrainPair) → p.first < p.second → p.second < length c.book
    → (list_all (λ i. is_small (l.alpha p i)) (list_of lists p.first) ≡ true) × (list_all (λ j. is_small (l.beta p j)) (list_of lists p.second) ≡ true)
both_small c lists l e p h g =
    and_parts (list_all (λ i. is_small (l.alpha p i)) (list_of lists p.first)) (list_all (λ j. is_small (l.beta p j)) (list_of lists p.second))
    (passes_in (λ p. list_all (λ i. is_small (l.alpha p i)) (list_of lists p.first) && list_all (λ j. is_small (l.beta p j)) (list_of lists p.second))
    (train_pairs (length c.book)) p e (in_pairs (length c.book) p.first p.second h g))

small_alone : (a b : ℤ) → IsSmall a → b ≡ pos 0 → IsSmall (a +ℤ b)
small_alone a b h e = let same : a +ℤ b ≡ a = omega (arith, ints, e) in subst IsSmall (sym same) h

pub listed_in : (lists : Lists) (t i : ℕ) → in_list lists t i ≡ true → Contains (list_of lists t) i
listed_in lists t i e = Contains-from_any {eq = λ a b. b == a} (λ x y f. sym (eqb-true y x f)) i (list_of lists t) e

pub in_listed : (lists : Lists) (t i : ℕ) → Contains (list_of lists t) i → in_list lists t i ≡ true
in_listed lists t i h = list_any_at (λ n. n == i) (list_of lists t) h.0 i h.1 (eq-eqb (get_or (list_of lists t) h.0 i) i h.2)

-- an expansion over tables of pairs of trains
module _ (c : CaseRecord) (groups : List Group) (there : (k : ℕ) (g : Group) → slice_get groups k ≡ Some g → (g.first < g.second) × (g.second < length c.book))
    (lists : Lists) (l : LeafRecord) (uses : List UseOf) (own : AreSmall l) (tested : are_small c lists (expansion groups lists l uses) ≡ true) where
  not_of : (p : TrainPair) → (p.first < p.second → p.second < length c.book → ⊥) → (k : ℕ) (g : Group) → slice_get groups k ≡ Some g → is_of p g ≡ false
  not_of p h k g e =
      false_from_ne_true (is_of p g)
      (λ t. let parts = and_parts (g.first == p.first) (g.second == p.second) t in
      let f = eqb-true g.first p.first parts.0 in
      let s = eqb-true g.second p.second parts.1 in
      let least = there k g e in
      h (omega (arith, f, s, least.0)) (omega (arith, s, least.1)))

  alpha_by_pair : (p : TrainPair) (i : ℕ) → in_list lists p.first i ≡ true → (p.first < p.second) ⊎ (p.second ≤ p.first) → (p.second < length c.book) ⊎ (length c.book ≤ p.second)
      → IsSmall (l.alpha p i +ℤ used_alpha groups uses p i)
  alpha_by_pair p i e (inl a) (inl b) =
      let tests = both_small c lists (expansion groups lists l uses) tested p a b in
      let small = small_is (l.alpha p i +ℤ only_if (in_list lists p.first i) (used_alpha groups uses p i))
      (passes_in (λ n. is_small ((expansion groups lists l uses).alpha p n)) (list_of lists p.first) i tests.0 (listed_in lists p.first i e)) in
      subst (λ (b : Bool). IsSmall (l.alpha p i +ℤ only_if b (used_alpha groups uses p i))) e small
  alpha_by_pair p i e (inl a) (inr b) =
      small_alone (l.alpha p i) (used_alpha groups uses p i) (own.alpha p i) (no_alpha p i groups (not_of p (λ x y. omega (arith, y, b))) uses)
  alpha_by_pair p i e (inr a) b =
      small_alone (l.alpha p i) (used_alpha groups uses p i) (own.alpha p i) (no_alpha p i groups (not_of p (λ x y. omega (arith, x, a))) uses)

  alpha_by_list : (p : TrainPair) (i : ℕ) (b : Bool) → in_list lists p.first i ≡ b → IsSmall (l.alpha p i +ℤ only_if b (used_alpha groups uses p i))
  alpha_by_list p i true e = alpha_by_pair p i e (cases_lt p.first p.second) (cases_lt p.second (length c.book))
  alpha_by_list p i false e = small_alone (l.alpha p i) (pos 0) (own.alpha p i) refl

  beta_by_pair : (p : TrainPair) (i : ℕ) → in_list lists p.second i ≡ true → (p.first < p.second) ⊎ (p.second ≤ p.first) → (p.second < length c.book) ⊎ (length c.book ≤ p.second)
      → IsSmall (l.beta p i +ℤ used_beta groups uses p i)
  beta_by_pair p i e (inl a) (inl b) =
      let tests = both_small c lists (expansion groups lists l uses) tested p a b in
      let small = small_is (l.beta p i +ℤ only_if (in_list lists p.second i) (used_beta groups uses p i))
      (passes_in (λ n. is_small ((expansion groups lists l uses).beta p n)) (list_of lists p.second) i tests.1 (listed_in lists p.second i e)) in
      subst (λ (b : Bool). IsSmall (l.beta p i +ℤ only_if b (used_beta groups uses p i))) e small
  beta_by_pair p i e (inl a) (inr b) =
      small_alone (l.beta p i) (used_beta groups uses p i) (own.beta p i) (no_beta p i groups (not_of p (λ x y. omega (arith, y, b))) uses)
  beta_by_pair p i e (inr a) b =
      small_alone (l.beta p i) (used_beta groups uses p i) (own.beta p i) (no_beta p i groups (not_of p (λ x y. omega (arith, x, a))) uses)

  beta_by_list : (p : TrainPair) (i : ℕ) (b : Bool) → in_list lists p.second i ≡ b → IsSmall (l.beta p i +ℤ only_if b (used_beta groups uses p i))
  beta_by_list p i true e = beta_by_pair p i e (cases_lt p.first p.second) (cases_lt p.second (length c.book))
  beta_by_list p i false e = small_alone (l.beta p i) (pos 0) (own.beta p i) refl

  pub tested_small : AreSmall (expansion groups lists l uses)
  tested_small = record {
    alpha = λ p i. alpha_by_list p i (in_list lists p.first i) refl;
    beta = λ p i. beta_by_list p i (in_list lists p.second i) refl;
  }

only_zero : (b : Bool) → only_if b (pos 0) ≡ pos 0
only_zero true = refl
only_zero false = refl

plus_zero : (z y : ℤ) → y ≡ pos 0 → z +ℤ y ≡ z
plus_zero z y e = omega (arith, ints, e)

-- without uses an expansion is the leaf's own numbers
pub expansion_alone : (groups : List Group) (lists : Lists) (l : LeafRecord) → expansion groups lists l [] ≡ l
expansion_alone groups lists l = λ i. record {
  q = l.q;
  u = l.u;
  v = l.v;
  alpha = λ p n. plus_zero (l.alpha p n) (only_if (in_list lists p.first n) (pos 0)) (only_zero (in_list lists p.first n)) i;
  beta = λ p n. plus_zero (l.beta p n) (only_if (in_list lists p.second n) (pos 0)) (only_zero (in_list lists p.second n)) i;
}
