-- A check of a leaf says yes exactly where it stands.
use Rattle.std.proofs.Common.{◌≡◌, ℕ, zero, suc, ◌+◌, ◌-◌, ◌<◌, ◌≤◌, ◌==◌, ◌&&◌, Bool, true, false, cond, rules, List, [], ◌∷◌, ◌++◌, map, length, get_or, refl, sym, ap, ◌∙◌, subst, arith, ℤ, pos, ◌≤ℤ◌, Option, Some, None, inl, inr, ◌⊎◌}
use Rattle.std.specs.Prelude.{find, Contains, IsOk, Result, Ok, Err, ◌↔◌, int_lt, slice_get}
use Rattle.std.specs.List.{All, flat_map, range_with_len}
use Rattle.std.specs.Ordering.{int_eq}
use Rattle.std.proofs.lemmas.Int.{ints}
use Rattle.std.proofs.lemmas.List.Elements.{All-nil, All-cons, All-head, All-tail, All-contains, Contains-append_left, Contains-append_right, All-map, All-weaker, All-contains_itself, Contains-get_or}
use Rattle.std.proofs.lemmas.List.FromFn.{get_or-range_with_len, length-range_with_len}
use Rattle.station.specs.Allowed.{numbers}
use Rattle.patterns.specs.Allowed.{Lists, list_of}
use Rattle.patterns.proofs.SoundLemmas.{numbers_below, flat_within}
use Rattle.patterns.proofs.Bounds.{all_from_places}
use Rattle.pair_prices.specs.Case.{CaseRecord}
use Rattle.pair_prices.specs.Trains.{pairs_with, train_pairs}
use Rattle.pair_prices.proofs.Above.{IsTrainPair, all_pairs_there}
use Rattle.leaf_bounds.specs.declared.number.MinuteValue.{MinuteValue}
use Rattle.leaf_bounds.specs.declared.leaf.Leaf.{Leaf}
use Rattle.leaf_bounds.specs.declared.check.LeafValue.{LeafValue}
use Rattle.leaf_bounds.specs.declared.check.PairPlace.{PairPlace}
use Rattle.leaf_bounds.specs.declared.check.PatternPlace.{PatternPlace}
use Rattle.leaf_bounds.specs.declared.check.LeafFault.{LeafFault}
use Rattle.leaf_bounds.specs.declared.check.LeafFault.TheVariants.{Pair, Pattern}
use Rattle.leaf_bounds.specs.Total.{only_if, total}
use Rattle.leaf_bounds.specs.Leaf.{LeafRecord, StandsFor}
use Rattle.leaf_bounds.specs.Listed.{IsMinuteValue}
use Rattle.leaf_bounds.specs.Shown.{numbers_of, ArePlaces, LeafStands}
use Rattle.leaf_bounds.specs.Verdict.{pair_places, pattern_places, pair_fails, pattern_fails, first_pair, first_pattern, answer_of, verdict_by, verdict_of}
use Rattle.leaf_bounds.proofs.Totals.{total_le, total_none}
use Rattle.leaf_bounds.proofs.FullLemmas.{in_numbers}

none_pass_by : {X : Type 0} (p : X → Bool) (x : X) (xs : List X) (b : Bool) → p x ≡ b → cond b (Some x) (find p xs) ≡ None
    → (find p xs ≡ None → All (λ y. p y ≡ false) xs) → All (λ y. p y ≡ false) (x ∷ xs)
none_pass_by p x xs true f e rest = cc
none_pass_by p x xs false f e rest = All-cons (λ y. p y ≡ false) x xs f (rest e)

-- nothing is found exactly where nothing passes
pub none_pass : {X : Type 0} (p : X → Bool) (xs : List X) → find p xs ≡ None → All (λ x. p x ≡ false) xs
none_pass p [] e = All-nil (λ x. p x ≡ false)
none_pass p (x ∷ xs) e = none_pass_by p x xs (p x) refl e (none_pass p xs)

pub none_found : {X : Type 0} (p : X → Bool) (xs : List X) → All (λ x. p x ≡ false) xs → find p xs ≡ None
none_found p [] h = refl
none_found p (x ∷ xs) h =
    ap (λ b. cond b (Some x) (find p xs)) (All-head (λ y. p y ≡ false) x xs h) ∙ none_found p xs (All-tail (λ y. p y ≡ false) x xs h)

first_or_later : {X : Type 0} (y x : X) (xs : List X) (k : ℕ) → k < length (y ∷ xs) → get_or (y ∷ xs) k x ≡ x → (y ≡ x) ⊎ Contains xs x
first_or_later y x xs zero h e = inl e
first_or_later y x xs (suc k) h e = inr (k, omega arith, e)

in_flat_by : {X Y : Type 0} (f : X → List Y) (z x : X) (y : Y) (xs : List X) → (Contains xs x → Contains (flat_map f xs) y)
    → Contains (f x) y → (z ≡ x) ⊎ Contains xs x → Contains (f z ++ flat_map f xs) y
in_flat_by {X} f z x y xs rest g (inl e) =
    Contains-append_left (f z) (flat_map f xs) y (subst (λ (w : X). Contains (f w) y) (sym e) g)
in_flat_by f z x y xs rest g (inr c) = Contains-append_right (f z) (flat_map f xs) y (rest c)

in_flat : {X Y : Type 0} (f : X → List Y) (xs : List X) (x : X) (y : Y) → Contains xs x → Contains (f x) y → Contains (flat_map f xs) y
in_flat f [] x y h g = absurd (omega (arith, h.1))
in_flat f (z ∷ xs) x y h g = in_flat_by f z x y xs (λ c. in_flat f xs x y c g) g (first_or_later z x xs h.0 h.1 h.2)

in_map_by : {X Y : Type 0} (f : X → Y) (z x : X) (xs : List X) → (Contains xs x → Contains (map f xs) (f x)) → (z ≡ x) ⊎ Contains xs x
    → Contains (f z ∷ map f xs) (f x)
in_map_by f z x xs rest (inl e) = (0, omega arith, ap f e)
in_map_by f z x xs rest (inr c) = let g = rest c in (suc g.0, omega (arith, g.1), g.2)

in_map : {X Y : Type 0} (f : X → Y) (xs : List X) (x : X) → Contains xs x → Contains (map f xs) (f x)
in_map f [] x h = absurd (omega (arith, h.1))
in_map f (z ∷ xs) x h = in_map_by f z x xs (λ c. in_map f xs x c) (first_or_later z x xs h.0 h.1 h.2)

in_range : (a n k : ℕ) → a ≤ k → k < a + n → Contains (range_with_len a n) k
in_range a n k h l =
    let there : k - a < length (range_with_len a n) = omega (arith, length-range_with_len a n) in
    let at : get_or (range_with_len a n) (k - a) 0 ≡ k = get_or-range_with_len a n (k - a) 0 (omega arith) ∙ omega arith in
    subst (λ (x : ℕ). Contains (range_with_len a n) x) at (Contains-get_or (range_with_len a n) (k - a) 0 there)

pub in_pairs : (n s t : ℕ) → s < t → t < n → Contains (train_pairs n) (record { first = s; second = t })
unfolding train_pairs
in_pairs n s t h l =
    in_flat (pairs_with n) (numbers n) s (record { first = s; second = t }) (in_numbers n s (omega arith))
    (in_map (λ t. record { first = s; second = t }) (range_with_len (s + 1) (n - (s + 1))) t
    (in_range (s + 1) (n - (s + 1)) t (omega arith) (omega arith)))

pub at_most : (a b : ℤ) → int_lt b a ≡ false → a ≤ℤ b
at_most a b e = grind (arith, ints)

not_less : (a b : ℤ) → a ≤ℤ b → int_lt b a ≡ false
not_less a b h = grind (arith, ints)

record AreNone {A B : Type 0} (o : Option A) (q : Option B) : Type 0 where
  first : o ≡ None
  second : q ≡ None

ok_none : (o : Option PairPlace) (q : Option PatternPlace) (v : LeafValue) → IsOk (verdict_by o q v) → AreNone o q
ok_none (Some p) q v h = absurd (search rules)
ok_none None (Some x) v h = absurd (search rules)
ok_none None None v h = record { first = refl; second = refl }

none_ok : (o : Option PairPlace) (q : Option PatternPlace) (v : LeafValue) → o ≡ None → q ≡ None → IsOk (verdict_by o q v)
none_ok (Some p) q v e f = cc
none_ok None (Some x) v e f = cc
none_ok None None v e f = search rules

listed_least : (b : Bool) (z : ℤ) → pos 1 ≤ℤ z → pos 0 ≤ℤ only_if b z
listed_least true z h = omega (arith, ints, h)
listed_least false z h = omega (arith, ints)

pub v_least : (xs : List MinuteValue) → ((i : ℕ) (x : MinuteValue) → slice_get xs i ≡ Some x → IsMinuteValue x) → (test : MinuteValue → Bool)
    → pos 0 ≤ℤ total (λ x. only_if (test x) x.value) xs
v_least xs h test =
    let none = total_none xs in
    let le = total_le (λ x. pos 0) (λ x. only_if (test x) x.value) xs
    (all_from_places (λ x. pos 0 ≤ℤ only_if (test x) x.value) xs (λ i x e. listed_least (test x) x.value (h i x e).some)) in
    omega (arith, ints, none, le)

module _ (c : CaseRecord) (lists : Lists) (l : Leaf) where
  pair_there : (s t i j : ℕ) → s < t → t < length c.book → Contains (list_of lists s) i → Contains (list_of lists t) j
      → Contains (flat_map (pair_places lists) (train_pairs (length c.book))) (record { first = s; second = t; i = i; j = j })
  pair_there s t i j h k ci cj =
      in_flat (pair_places lists) (train_pairs (length c.book)) (record { first = s; second = t }) (record { first = s; second = t; i = i; j = j })
      (in_pairs (length c.book) s t h k)
      (in_flat (λ n. map (λ m. record { first = s; second = t; i = n; j = m }) (list_of lists t)) (list_of lists s) i
      (record { first = s; second = t; i = i; j = j }) ci
      (in_map (λ m. record { first = s; second = t; i = i; j = m }) (list_of lists t) j cj))

  pattern_there : (t i : ℕ) → t < length c.book → Contains (list_of lists t) i
      → Contains (flat_map (pattern_places lists) (numbers (length c.book))) (record { train = t; number = i })
  pattern_there t i h ci =
      in_flat (pattern_places lists) (numbers (length c.book)) t (record { train = t; number = i }) (in_numbers (length c.book) t h)
      (in_map (λ n. record { train = t; number = n }) (list_of lists t) i ci)

  pub stands_if_ok : ArePlaces c lists l → IsOk (verdict_of c lists (numbers_of l)) → LeafStands c lists l
  unfolding verdict_of first_pair first_pattern
  stands_if_ok places h =
      let none = ok_none (first_pair c lists (numbers_of l)) (first_pattern c lists (numbers_of l)) (answer_of c (numbers_of l)) h in
      let pairs = none_pass (pair_fails c (numbers_of l)) (flat_map (pair_places lists) (train_pairs (length c.book))) none.first in
      let patterns = none_pass (pattern_fails c (numbers_of l)) (flat_map (pattern_places lists) (numbers (length c.book))) none.second in
      record {
        places = places;
        stands = record {
          scale = l.kept.q_least;
          minute = λ p m. v_least l.v l.kept.v_each (λ x. x.platform == p && int_eq x.minute m);
          pair = λ s t i j a b ci cj. at_most _ _
              (All-contains (λ x. pair_fails c (numbers_of l) x ≡ false) (flat_map (pair_places lists) (train_pairs (length c.book)))
              (record { first = s; second = t; i = i; j = j }) pairs (pair_there s t i j a b ci cj));
          pattern = λ t i a ci. at_most _ _
              (All-contains (λ x. pattern_fails c (numbers_of l) x ≡ false) (flat_map (pattern_places lists) (numbers (length c.book)))
              (record { train = t; number = i }) patterns (pattern_there t i a ci));
        };
      }

  pairs_pass : StandsFor c lists (numbers_of l)
      → All (λ x. pair_fails c (numbers_of l) x ≡ false) (flat_map (pair_places lists) (train_pairs (length c.book)))
  pairs_pass s =
      flat_within (λ x. pair_fails c (numbers_of l) x ≡ false) (IsTrainPair (length c.book)) (pair_places lists) (train_pairs (length c.book))
      (all_pairs_there (length c.book))
      (λ p q. flat_within (λ x. pair_fails c (numbers_of l) x ≡ false) (Contains (list_of lists p.first))
      (λ n. map (λ m. record { first = p.first; second = p.second; i = n; j = m }) (list_of lists p.second)) (list_of lists p.first)
      (All-contains_itself (list_of lists p.first))
      (λ n cn. All-map (λ x. pair_fails c (numbers_of l) x ≡ false) (λ m. record { first = p.first; second = p.second; i = n; j = m }) (list_of lists p.second)
      (All-weaker (Contains (list_of lists p.second))
      (λ m. pair_fails c (numbers_of l) (record { first = p.first; second = p.second; i = n; j = m }) ≡ false)
      (λ m cm. not_less _ _ (s.pair p.first p.second n m q.order q.there cn cm))
      (list_of lists p.second) (All-contains_itself (list_of lists p.second)))))

  patterns_pass : StandsFor c lists (numbers_of l)
      → All (λ x. pattern_fails c (numbers_of l) x ≡ false) (flat_map (pattern_places lists) (numbers (length c.book)))
  patterns_pass s =
      flat_within (λ x. pattern_fails c (numbers_of l) x ≡ false) (λ t. t < length c.book) (pattern_places lists) (numbers (length c.book))
      (numbers_below (length c.book))
      (λ t i. All-map (λ x. pattern_fails c (numbers_of l) x ≡ false) (λ n. record { train = t; number = n }) (list_of lists t)
      (All-weaker (Contains (list_of lists t)) (λ n. pattern_fails c (numbers_of l) (record { train = t; number = n }) ≡ false)
      (λ n cn. not_less _ _ (s.pattern t n i cn)) (list_of lists t) (All-contains_itself (list_of lists t))))

  pub ok_if_stands : LeafStands c lists l → IsOk (verdict_of c lists (numbers_of l))
  unfolding verdict_of first_pair first_pattern
  ok_if_stands s =
      none_ok (first_pair c lists (numbers_of l)) (first_pattern c lists (numbers_of l)) (answer_of c (numbers_of l))
      (none_found (pair_fails c (numbers_of l)) (flat_map (pair_places lists) (train_pairs (length c.book))) (pairs_pass s.stands))
      (none_found (pattern_fails c (numbers_of l)) (flat_map (pattern_places lists) (numbers (length c.book))) (patterns_pass s.stands))

-- the answers of a check
module _ (c : CaseRecord) (lists : Lists) (l : LeafRecord) where
  pub pair_verdict : (p : PairPlace) → first_pair c lists l ≡ Some p → Err (Pair p) ≡ verdict_of c lists l
  unfolding verdict_of
  pair_verdict p e = ap (λ o. verdict_by o (first_pattern c lists l) (answer_of c l)) (sym e)

  pub pattern_verdict : (x : PatternPlace) → first_pair c lists l ≡ None → first_pattern c lists l ≡ Some x → Err (Pattern x) ≡ verdict_of c lists l
  unfolding verdict_of
  pattern_verdict x e f = λ i. verdict_by (sym e i) (sym f i) (answer_of c l)

  pub value_verdict : (v : LeafValue) → first_pair c lists l ≡ None → first_pattern c lists l ≡ None → v ≡ answer_of c l → Ok v ≡ verdict_of c lists l
  unfolding verdict_of
  value_verdict v e f g = λ i. verdict_by (sym e i) (sym f i) (g i)

pub verdict_stands : (c : CaseRecord) (lists : Lists) (l : Leaf) (r : Result LeafValue LeafFault) → r ≡ verdict_of c lists (numbers_of l)
    → (IsOk (verdict_of c lists (numbers_of l)) ↔ LeafStands c lists l) → (IsOk r ↔ LeafStands c lists l)
verdict_stands c lists l r e h = subst (λ (v : Result LeafValue LeafFault). IsOk v ↔ LeafStands c lists l) (sym e) h
