-- What leaves list, and what is small, in general.
use Rattle.std.proofs.Common.{◌≡◌, ℕ, zero, suc, ◌<◌, ◌≤◌, ◌==◌, ◌&&◌, ◌⊎◌, Bool, true, false, List, [], ◌∷◌, ◌++◌, length, get_or, refl, sym, ap, subst, ◌∙◌, arith, inl, inr, Some, ℤ, pos, ◌+ℤ◌, ◌<ℤ◌}
use Rattle.std.specs.Prelude.{All, Contains, slice_get, int_lt, unsigned_abs}
use Rattle.std.specs.List.{list_all, list_any}
use Rattle.std.proofs.lemmas.Int.{ints}
use Rattle.std.proofs.lemmas.Bool.{eqb-true}
use Rattle.std.proofs.lemmas.Bool.Decides.{nat_tests}
use Rattle.std.proofs.lemmas.List.Elements.{All-append, All-cons, All-contains, All-head, All-nil, All-tail, All-weaker}
use Rattle.std.proofs.lemmas.Option.{slice_get_within, slice_get-get_or}
use Rattle.std.proofs.lemmas.Map.Views.{Contains-from_any}
use Rattle.patterns.specs.Allowed.{FitsBook, Lists, list_of}
use Rattle.patterns.specs.Book.{IsBook, Offers, offers_of}
use Rattle.pair_prices.specs.Case.{CaseRecord}
use Rattle.pair_prices.specs.Trains.{TrainPair, train_pairs}
use Rattle.leaf_bounds.specs.declared.number.PairValue.{PairValue}
use Rattle.leaf_bounds.specs.Expansion.{in_list}
use Rattle.leaf_bounds.specs.Listed.{IsSmall, is_at, pair_key, pair_listed}
use Rattle.leaf_bounds.specs.Leaf.{LeafRecord}
use Rattle.leaf_bounds.specs.Total.{only_if}
use Rattle.leaf_bounds.proofs.PlaceLemmas.{none_listed}
use Rattle.leaf_bounds.proofs.Totals.{total_push}
use Rattle.leaf_bounds.proofs.VerdictLemmas.{in_pairs}
use Rattle.pair_prices.proofs.Above.{IsTrainPair, all_pairs_there}
use Rattle.proof_file.proofs.TruthLemmas.{and_parts}
use Rattle.proof_rules.specs.Fault.{is_none, is_above, is_some_value, is_small, are_small}
use Rattle.proof_check.specs.declared.potentials.Potentials.{Potentials}
use Rattle.proof_check.specs.Sums.{AreKeyed, AreLists, sum_at, value_at}
use Rattle.proof_check.specs.Open.{AddsPair}
use Rattle.proof_check.proofs.SumLemmas.{sum_is_value, sum_put}

-- an entry more
pub all_more : {X : Type 0} (P : X → Type 0) (xs : List X) (x : X) → All P xs → P x → All P (xs ++ x ∷ [])
all_more P xs x h p = All-append P xs (x ∷ []) h (All-cons P x [] p (All-nil P))

pub some_size : (z : ℤ) → is_some_value z ≡ true → 1 ≤ unsigned_abs z
some_size z e = grind (arith, nat_tests)

pub none_is : {X : Type 0} (xs : List X) → is_none xs ≡ true → xs ≡ []
none_is [] e = refl
none_is (x ∷ xs) e = absurd (cc)

above_at : {X : Type 0} (key : X → ℤ) (xs : List X) (x : X) → is_above key xs x ≡ true → (k : ℕ) (y : X) → slice_get xs k ≡ Some y → key y <ℤ key x
above_at key [] x h k y e = absurd (cc)
above_at key (z ∷ xs) x h zero y e =
    let parts = and_parts (int_lt (key z) (key x)) (is_above key xs x) h in
    let same : z ≡ y = cc in
    subst (λ w. key w <ℤ key x) same (less (key z) (key x) parts.0)
  where
    less : (a b : ℤ) → int_lt a b ≡ true → a <ℤ b
    less a b e = grind (arith, ints)
above_at key (z ∷ xs) x h (suc k) y e = above_at key xs x (and_parts (int_lt (key z) (key x)) (is_above key xs x) h).1 k y e

pub both : (a b : Bool) → a ≡ true → b ≡ true → (a && b) ≡ true
both true b e f = f
both false b e f = e

pub listed_in : (ns : List ℕ) (n : ℕ) → list_any (λ m. m == n) ns ≡ true → Contains ns n
listed_in ns n e = Contains-from_any {eq = λ a b. b == a} (λ x y f. sym (eqb-true y x f)) n ns e

pub get_or_at : {X : Type 0} (xs : List X) (k : ℕ) (x : X) → slice_get xs k ≡ Some x → get_or xs k x ≡ x
get_or_at xs k x e =
    let there = slice_get-get_or xs k x (slice_get_within xs k x e) in
    cc

-- the numbers that are allowed

count_small : (book : Offers) → IsBook book → (t : ℕ) → t < length book → length (offers_of book t) ≤ 4096
count_small book b t h = b.counts t [] h

numbers_small : (lists : Lists) (book : Offers) → FitsBook lists book → IsBook book → (t : ℕ) → t < length lists → All (λ n. n < 4096) (list_of lists t)
numbers_small lists book fits b t h =
    let most = count_small book b t (omega (arith, h, fits.trains)) in
    All-weaker (λ n. n < length (offers_of book t)) (λ n. n < 4096) (λ n l. omega (arith, l, most)) (list_of lists t) (fits.there t h)

pub are_lists : (lists : Lists) (book : Offers) → FitsBook lists book → IsBook book → AreLists lists
are_lists lists book fits b = record {
  few = omega (arith, fits.trains, b.trains);
  ascending = fits.ascending;
  numbers = λ t n h e. All-contains (λ n. n < 4096) (list_of lists t) n (numbers_small lists book fits b t h) (in_it t n e);
}
  where
    in_it : (t n : ℕ) → in_list lists t n ≡ true → Contains (list_of lists t) n
    in_it t n e = listed_in (list_of lists t) n e

-- tests of all members
module _ {X : Type 0} (p : X → Bool) where
  all_pass : (xs : List X) → All (λ x. p x ≡ true) xs → list_all p xs ≡ true
  all_pass [] h = refl
  all_pass (x ∷ xs) h =
      both (p x) (list_all p xs) (All-head (λ y. p y ≡ true) x xs h) (all_pass xs (All-tail (λ y. p y ≡ true) x xs h))

  all_passed : (xs : List X) → list_all p xs ≡ true → All (λ x. p x ≡ true) xs
  all_passed [] e = All-nil (λ x. p x ≡ true)
  all_passed (x ∷ xs) e =
      let parts = and_parts (p x) (list_all p xs) e in
      All-cons (λ y. p y ≡ true) x xs parts.0 (all_passed xs parts.1)

  one_fails : (xs : List X) (x : X) → Contains xs x → p x ≡ false → list_all p xs ≡ false
  one_fails xs x h e = by (list_all p xs) refl
    where
      by : (b : Bool) → list_all p xs ≡ b → b ≡ false
      by true f =
          let passes : p x ≡ true = All-contains (λ y. p y ≡ true) xs x (all_passed xs f) h in
          absurd (cc)
      by false f = refl

small_true : (z : ℤ) → IsSmall z → is_small z ≡ true
small_true z h = grind (arith, nat_tests)

small_false : (z : ℤ) → (IsSmall z → ⊥) → is_small z ≡ false
small_false z h = by (is_small z) refl
  where
    small_from : is_small z ≡ true → IsSmall z
    small_from e = grind (arith, nat_tests)

    by : (b : Bool) → is_small z ≡ b → b ≡ false
    by true e = absurd (h (small_from e))
    by false e = refl

and_no : (a b : Bool) → (a ≡ false) ⊎ (b ≡ false) → (a && b) ≡ false
and_no true b (inl e) = absurd (cc)
and_no true b (inr e) = e
and_no false b h = refl

module _ (c : CaseRecord) (lists : Lists) (l : LeafRecord) where
  abbrev IsSmallOn : (TrainPair → ℕ → ℤ) → Type 0
  IsSmallOn f = (p : TrainPair) (i : ℕ) → p.second < 200 → i < 4096 → IsSmall (f p i)

  pub all_small : FitsBook lists c.book → IsBook c.book → IsSmallOn l.alpha → IsSmallOn l.beta → are_small c lists l ≡ true
  all_small fits b ha hb =
      all_pass (λ p. list_all (λ i. is_small (l.alpha p i)) (list_of lists p.first) && list_all (λ j. is_small (l.beta p j)) (list_of lists p.second))
      (train_pairs (length c.book))
      (All-weaker (IsTrainPair (length c.book))
      (λ p. (list_all (λ i. is_small (l.alpha p i)) (list_of lists p.first) && list_all (λ j. is_small (l.beta p j)) (list_of lists p.second)) ≡ true)
      (λ p q.
      let few = b.trains in
      let size = fits.trains in
      let order = q.order in
      let there = q.there in
      both (list_all (λ i. is_small (l.alpha p i)) (list_of lists p.first)) (list_all (λ j. is_small (l.beta p j)) (list_of lists p.second))
      (all_pass (λ i. is_small (l.alpha p i)) (list_of lists p.first)
      (All-weaker (λ n. n < 4096) (λ i. is_small (l.alpha p i) ≡ true) (λ i h. small_true (l.alpha p i) (ha p i (omega (arith, there, few)) h)) (list_of lists p.first)
      (numbers_small lists c.book fits b p.first (omega (arith, there, order, size)))))
      (all_pass (λ j. is_small (l.beta p j)) (list_of lists p.second)
      (All-weaker (λ n. n < 4096) (λ j. is_small (l.beta p j) ≡ true) (λ j h. small_true (l.beta p j) (hb p j (omega (arith, there, few)) h)) (list_of lists p.second)
      (numbers_small lists c.book fits b p.second (omega (arith, there, size))))))
      (train_pairs (length c.book)) (all_pairs_there (length c.book)))

  pub one_large : (s t : ℕ) → s < t → t < length c.book
      → ((n : ℕ) × (in_list lists s n ≡ true) × (IsSmall (l.alpha (record { first = s; second = t }) n) → ⊥))
      ⊎ ((n : ℕ) × (in_list lists t n ≡ true) × (IsSmall (l.beta (record { first = s; second = t }) n) → ⊥)) → are_small c lists l ≡ false
  one_large s t order there h =
      one_fails (λ p. list_all (λ i. is_small (l.alpha p i)) (list_of lists p.first) && list_all (λ j. is_small (l.beta p j)) (list_of lists p.second))
      (train_pairs (length c.book)) (record { first = s; second = t }) (in_pairs (length c.book) s t order there)
      (and_no (list_all (λ i. is_small (l.alpha (record { first = s; second = t }) i)) (list_of lists s))
      (list_all (λ j. is_small (l.beta (record { first = s; second = t }) j)) (list_of lists t)) (fails h))
    where
      fails : ((n : ℕ) × (in_list lists s n ≡ true) × (IsSmall (l.alpha (record { first = s; second = t }) n) → ⊥))
          ⊎ ((n : ℕ) × (in_list lists t n ≡ true) × (IsSmall (l.beta (record { first = s; second = t }) n) → ⊥))
          → (list_all (λ i. is_small (l.alpha (record { first = s; second = t }) i)) (list_of lists s) ≡ false)
          ⊎ (list_all (λ j. is_small (l.beta (record { first = s; second = t }) j)) (list_of lists t) ≡ false)
      fails (inl f) = inl (one_fails (λ i. is_small (l.alpha (record { first = s; second = t }) i)) (list_of lists s) f.0 (listed_in (list_of lists s) f.0 f.1)
          (small_false (l.alpha (record { first = s; second = t }) f.0) f.2))
      fails (inr f) = inr (one_fails (λ j. is_small (l.beta (record { first = s; second = t }) j)) (list_of lists t) f.0 (listed_in (list_of lists t) f.0 f.1)
          (small_false (l.beta (record { first = s; second = t }) f.0) f.2))

-- sums with an entry that is listed behind all others

pub pair_sums : (old new : Potentials) (x : PairValue) (extra : TrainPair → ℕ → ℤ) → AreKeyed old.sums → AddsPair old x new → x.second < 200 → x.number < 4096
    → is_above (λ y. pos (pair_key y)) old.listed.items x ≡ true → ((p : TrainPair) (i : ℕ) → extra p i ≡ pos 0)
    → ((p : TrainPair) (i : ℕ) → sum_at old.sums p i ≡ pair_listed old.listed.items p i +ℤ extra p i)
    → (p : TrainPair) (i : ℕ) → sum_at new.sums p i ≡ pair_listed new.listed.items p i +ℤ extra p i
pair_sums old new x extra keyed a second number above none sums p i =
    more (is_at p i x) (sum_at new.sums p i) (sum_at old.sums p i) (value_at old.sums (pair_key x)) x.value (pair_listed old.listed.items p i) (extra p i)
    (pair_listed new.listed.items p i) (sum_put old.sums new.sums keyed x second number a.sums p i) nothing_there (sums p i)
    (ap (λ xs. pair_listed xs p i) a.listed ∙ total_push (λ y. only_if (is_at p i y) y.value) old.listed.items x)
  where
    both_none : (l e v : ℤ) → v ≡ l +ℤ e → e ≡ pos 0 → l ≡ pos 0 → v ≡ pos 0
    both_none l e v a b d = omega (arith, ints, a, b, d)

    nothing_there : value_at old.sums (pair_key x) ≡ pos 0
    nothing_there =
        sym (sum_is_value (record { first = x.first; second = x.second }) x.number second number old.sums keyed)
        ∙ both_none (pair_listed old.listed.items (record { first = x.first; second = x.second }) x.number) (extra (record { first = x.first; second = x.second }) x.number)
        (sum_at old.sums (record { first = x.first; second = x.second }) x.number) (sums (record { first = x.first; second = x.second }) x.number)
        (none (record { first = x.first; second = x.second }) x.number)
        (none_listed (record { first = x.first; second = x.second }) x.number old.listed.items
        (λ k y e q. let less = above_at (λ z. pos (pair_key z)) old.listed.items x above k y e in omega (arith, ints, less, q)))

    more : (t : Bool) (n o v z l e m : ℤ) → n +ℤ only_if t v ≡ o +ℤ only_if t z → v ≡ pos 0 → o ≡ l +ℤ e → m ≡ l +ℤ only_if t z → n ≡ m +ℤ e
    more true n o v z l e m a b d f = omega (arith, ints, a, b, d, f)
    more false n o v z l e m a b d f = omega (arith, ints, a, d, f)

pub nothing_used : (b : Bool) (z : ℤ) → z ≡ pos 0 → only_if b z ≡ pos 0
nothing_used true z e = e
nothing_used false z e = refl

-- sums with a table's numbers
pub used_more : (b : Bool) (o l u f n m : ℤ) → o ≡ l +ℤ only_if b u → n ≡ o +ℤ only_if b f → m ≡ u +ℤ f → n ≡ l +ℤ only_if b m
used_more true o l u f n m a d e = omega (arith, ints, a, d, e)
used_more false o l u f n m a d e = omega (arith, ints, a, d)
