-- Leaves that list a number for each train and nothing else.
use Rattle.std.proofs.Common.{◌≡◌, ℕ, ◌+◌, ◌<◌, ◌≤◌, ◌==◌, Bool, true, false, eqb, cond, List, [], ◌∷◌, ◌++◌, length, refl, sym, ap, ◌∙◌, subst, arith, ℤ, pos, ◌≤ℤ◌, ◌<ℤ◌}
use Rattle.std.specs.Prelude.{Contains, sum_by, ◌^◌}
use Rattle.std.specs.List.{All, flat_map}
use Rattle.std.proofs.lemmas.Int.{ints}
use Rattle.std.proofs.lemmas.Bool.{eqb-true, eqb-false}
use Rattle.std.proofs.lemmas.Bool.Decides.{nat_tests}
use Rattle.std.proofs.lemmas.List.Elements.{All-nil}
use Rattle.std.proofs.lemmas.List.Sums.{sum_by-cons}
use Rattle.station.specs.Allowed.{numbers}
use Rattle.station.proofs.Lists.{Every, every-at}
use Rattle.patterns.specs.Book.{price_at}
use Rattle.patterns.specs.Allowed.{Lists, list_of}
use Rattle.patterns.proofs.Bounds.{all_from_places}
use Rattle.patterns.proofs.Steps.{flat_map_numbers_more}
use Rattle.pair_prices.specs.Case.{CaseRecord}
use Rattle.leaf_bounds.specs.declared.number.TrainValue.{TrainValue}
use Rattle.leaf_bounds.specs.declared.number.MinuteValue.{MinuteValue}
use Rattle.leaf_bounds.specs.declared.number.PairValue.{PairValue}
use Rattle.leaf_bounds.specs.declared.leaf.Leaf.{Leaf}
use Rattle.leaf_bounds.specs.Building.{AreTrainValues, listed_value, value_list}
use Rattle.leaf_bounds.specs.Leaf.{StandsFor, value_of}
use Rattle.leaf_bounds.specs.Listed.{AreLeafLists, Ascends, IsMinuteValue, IsPairValue, IsTrainValue, minute_key, pair_key, u_listed}
use Rattle.leaf_bounds.specs.Made.{IsUnitLeaf}
use Rattle.leaf_bounds.specs.Shown.{numbers_of, ArePlaces, IsPairThere}
use Rattle.leaf_bounds.specs.Total.{only_if, total}
use Rattle.leaf_bounds.proofs.BoundedLemmas.{Each}
use Rattle.leaf_bounds.proofs.MadeLemmas.{bare_stands, bare_value, is_bare}
use Rattle.leaf_bounds.proofs.RisingLemmas.{ascends_from, every_range, every_single, rising_range, rising_single}
use Rattle.leaf_bounds.proofs.SwapLemmas.{total_flat_map}
use Rattle.leaf_bounds.proofs.Totals.{total_at, total_numbers_same}

abbrev pub entry_of : ℕ → ℕ → TrainValue
entry_of t n = record { train = t; value = pos n }

nothing_in : (b : Bool) → pos 0 ≡ only_if b (pos 0)
nothing_in true = refl
nothing_in false = refl

eqb_sym : (a b : ℕ) → eqb a b ≡ eqb b a
eqb_sym a b = grind (arith, nat_tests)

one_number : (s t n : ℕ) (b : Bool) → (n == 0) ≡ b → total (λ x. only_if (x.train == t) x.value) (cond b [] (entry_of s n ∷ [])) ≡ only_if (eqb t s) (pos n)
one_number s t n true e = nothing_in (eqb t s) ∙ ap (λ k. only_if (eqb t s) (pos k)) (sym (eqb-true n 0 e))
one_number s t n false e =
    let same = ap (λ b. only_if b (pos n)) (eqb_sym s t) in
    omega (arith, ints, same)

-- each train's number is listed
pub value_listed : (f : ℕ → ℕ) (n t : ℕ) → t < n → u_listed (value_list f n) t ≡ pos (f t)
unfolding value_list
value_listed f n t h =
    total_flat_map (λ x. only_if (x.train == t) x.value) (λ s. listed_value s (f s)) (numbers n)
    ∙ total_numbers_same (λ s. total (λ x. only_if (x.train == t) x.value) (listed_value s (f s))) (λ s. only_if (eqb t s) (pos (f s))) n
    (λ s l. one_number s t (f s) (f s == 0) refl)
    ∙ total_at (λ s. pos (f s)) t n h

value_part : (t n : ℕ) (b : Bool) → (n == 0) ≡ b → t < 200 → n ≤ 10 ^ 30 → Every IsTrainValue (cond b [] (entry_of t n ∷ []))
value_part t n true e h l = tt
value_part t n false e h l =
    let some = eqb-false n 0 e in
    (record { train = h; value = omega (arith, l); some = omega (arith, some) }, tt)

pub are_values : (f : ℕ → ℕ) (n : ℕ) → n ≤ 200 → ((t : ℕ) → t < n → f t ≤ 10 ^ 30) → AreTrainValues (value_list f n)
unfolding value_list
are_values f n few small = record {
  each = every-at IsTrainValue (flat_map (λ t. listed_value t (f t)) (numbers n))
      (every_range IsTrainValue (λ t. listed_value t (f t)) 0 n
      (λ k i j. value_part k (f k) (f k == 0) refl (omega (arith, few, j)) (small k (omega (arith, j)))));
  ascends = ascends_from (λ x. pos x.train) (flat_map (λ t. listed_value t (f t)) (numbers n))
      (rising_range (λ x. pos x.train) (λ k. pos k) (λ t. listed_value t (f t)) 0 n
      (λ k i j. rising_single (λ x. pos x.train) (f k == 0) (entry_of k (f k)))
      (λ k j a b d. every_single (λ x. pos k ≤ℤ pos x.train) (f j == 0) (entry_of j (f j)) (omega (arith, ints, b)))
      (λ k i j. every_single (λ x. pos x.train <ℤ pos (k + 1)) (f k == 0) (entry_of k (f k)) (omega (arith, ints))));
}

pub trains_there : (f : ℕ → ℕ) (n : ℕ) → All (λ x. x.train < n) (value_list f n)
unfolding value_list
trains_there f n =
    all_from_places (λ x. x.train < n) (flat_map (λ t. listed_value t (f t)) (numbers n))
    (every-at (λ x. x.train < n) (flat_map (λ t. listed_value t (f t)) (numbers n))
    (every_range (λ x. x.train < n) (λ t. listed_value t (f t)) 0 n
    (λ k i j. every_single (λ x. x.train < n) (f k == 0) (entry_of k (f k)) (omega (arith, j)))))

pub total_pos : {X : Type 0} (f : X → ℕ) (xs : List X) → total (λ x. pos (f x)) xs ≡ pos (sum_by f xs)
total_pos f [] = refl
total_pos f (x ∷ xs) =
    let rest = total_pos f xs in
    let more = sum_by-cons f x xs in
    omega (arith, ints, rest, more)

module _ (c : CaseRecord) (lists : Lists) (l : Leaf) (f : ℕ → ℕ) (q : l.q ≡ pos 1) (u : l.u ≡ value_list f (length c.book)) (v : l.v ≡ [])
    (alpha : l.alpha ≡ []) (beta : l.beta ≡ []) where
  bare_places : ArePlaces c lists l
  bare_places = record {
    trains = subst (All (λ x. x.train < length c.book)) (sym u) (trains_there f (length c.book));
    platforms = subst (All (λ x. x.platform < length c.station.platforms)) (sym v) (All-nil (λ x. x.platform < length c.station.platforms));
    alpha_pairs = subst (All (IsPairThere c)) (sym alpha) (All-nil (IsPairThere c));
    alpha_numbers = subst (All (λ x. Contains (list_of lists x.first) x.number)) (sym alpha) (All-nil (λ x. Contains (list_of lists x.first) x.number));
    beta_pairs = subst (All (IsPairThere c)) (sym beta) (All-nil (IsPairThere c));
    beta_numbers = subst (All (λ x. Contains (list_of lists x.second) x.number)) (sym beta) (All-nil (λ x. Contains (list_of lists x.second) x.number));
  }

  listed : (t : ℕ) → t < length c.book → u_listed l.u t ≡ pos (f t)
  listed t h = ap (λ us. u_listed us t) u ∙ value_listed f (length c.book) t h

  pub unit_made : ((t i : ℕ) → t < length c.book → Contains (list_of lists t) i → f t ≤ price_at c.book t i) → IsUnitLeaf c lists l
  unit_made h = record {
    q = q;
    stands = record {
      places = bare_places;
      stands = subst (StandsFor c lists) (sym (is_bare c lists l q v alpha beta))
          (bare_stands c (u_listed l.u) lists (λ t i a ci.
          let value = listed t a in
          let most = h t i a ci in
          omega (arith, ints, value, most)));
    };
  }

  pub unit_value : value_of c (numbers_of l) ≡ pos (sum_by f (numbers (length c.book)))
  unit_value =
      ap (value_of c) (is_bare c lists l q v alpha beta) ∙ bare_value c (u_listed l.u)
      ∙ total_numbers_same (u_listed l.u) (λ t. pos (f t)) (length c.book) listed
      ∙ total_pos f (numbers (length c.book))

-- the loop that lists the numbers
pub value_list_none : (f : ℕ → ℕ) → [] ≡ value_list f 0
unfolding value_list
value_list_none f = refl

pub value_list_more : (f : ℕ → ℕ) (k n : ℕ) (old new : List TrainValue) → old ≡ value_list f k → new ≡ old ++ listed_value k n → n ≡ f k → new ≡ value_list f (k + 1)
unfolding value_list
value_list_more f k n old new e g h =
    g ∙ (λ i. e i ++ listed_value k (h i)) ∙ sym (flat_map_numbers_more (λ t. listed_value t (f t)) k)

-- the lists of such a leaf
none_at : {X : Type 0} (P : X → Type 0) → Each P []
none_at P i x e = cc

none_ascend : {X : Type 0} (key : X → ℤ) → Ascends key []
none_ascend key i x y e f = cc

pub bare_lists : (us u : List TrainValue) (v : List MinuteValue) (alpha beta : List PairValue) → AreTrainValues us → u ≡ us → v ≡ [] → alpha ≡ [] → beta ≡ []
    → AreLeafLists (pos 1) u v alpha beta
bare_lists us u v alpha beta h e f g k =
    subst (λ (xs : List TrainValue). AreLeafLists (pos 1) xs v alpha beta) (sym e)
    (subst (λ (xs : List MinuteValue). AreLeafLists (pos 1) us xs alpha beta) (sym f)
    (subst (λ (xs : List PairValue). AreLeafLists (pos 1) us [] xs beta) (sym g)
    (subst (λ (xs : List PairValue). AreLeafLists (pos 1) us [] [] xs) (sym k)
    (record {
      q_least = omega (arith, ints);
      q_most = omega (arith, ints);
      u_each = h.each;
      v_each = none_at IsMinuteValue;
      alpha_each = none_at IsPairValue;
      beta_each = none_at IsPairValue;
      u_ascends = h.ascends;
      v_ascends = none_ascend minute_key;
      alpha_ascends = none_ascend (λ x. pos (pair_key x));
      beta_ascends = none_ascend (λ x. pos (pair_key x));
    }))))

some_listed : (t n : ℕ) (b : Bool) → (n == 0) ≡ b → 1 ≤ n → cond b [] (entry_of t n ∷ []) ≡ entry_of t n ∷ []
some_listed t n true e h = let z = eqb-true n 0 e in absurd (omega (arith, z, h))
some_listed t n false e h = refl

-- one number that isn't 0
pub one_listed : (t n : ℕ) → 1 ≤ n → listed_value t n ≡ entry_of t n ∷ []
one_listed t n h = some_listed t n (n == 0) refl h

pub one_value : (t n : ℕ) → t < 200 → 1 ≤ n → n ≤ 10 ^ 30 → AreTrainValues (entry_of t n ∷ [])
one_value t n h l m = record {
  each = every-at IsTrainValue (entry_of t n ∷ []) (record { train = h; value = omega (arith, m); some = omega (arith, l) }, tt);
  ascends = ascends_from (λ x. pos x.train) (entry_of t n ∷ []) (tt, tt);
}
