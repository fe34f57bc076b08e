-- A leaf's numbers stand for lists exactly where the check of a leaf has a value.
use Rattle.std.proofs.Common.{◌≡◌, ℕ, ◌<◌, false, List, [], ◌∷◌, ◌++◌, map, length, refl, sym, arith, ℤ, pos, ◌≤ℤ◌, Option, Some, None, Ok}
use Rattle.std.specs.Prelude.{Contains, int_lt}
use Rattle.std.specs.List.{flat_map}
use Rattle.std.proofs.lemmas.Int.{ints}
use Rattle.std.proofs.lemmas.List.Elements.{All-contains, All-contains_itself}
use Rattle.station.specs.Allowed.{numbers}
use Rattle.station.proofs.Lists.{Every, every-append, every-weaker}
use Rattle.patterns.specs.Allowed.{Lists, list_of}
use Rattle.patterns.proofs.SoundLemmas.{numbers_below}
use Rattle.pair_prices.specs.Case.{CaseRecord}
use Rattle.pair_prices.specs.Trains.{train_pairs}
use Rattle.pair_prices.proofs.Above.{IsTrainPair, all_pairs_there}
use Rattle.leaf_bounds.specs.declared.check.LeafValue.{LeafValue}
use Rattle.leaf_bounds.specs.declared.check.PairPlace.{PairPlace}
use Rattle.leaf_bounds.specs.declared.check.PatternPlace.{PatternPlace}
use Rattle.leaf_bounds.specs.Leaf.{LeafRecord, StandsFor}
use Rattle.leaf_bounds.specs.Verdict.{pair_places, pattern_places, pair_fails, pattern_fails, first_pair, first_pattern, answer_of, verdict_by, verdict_of}
use Rattle.leaf_bounds.proofs.FullLemmas.{in_numbers}
use Rattle.leaf_bounds.proofs.VerdictLemmas.{none_pass, none_found, in_pairs, at_most, value_verdict}
use Rattle.proof_rules.proofs.TestLemmas.{all_every, every_all}

-- what holds of all parts of a list
pub every_front : {X : Type 0} (P : X → Type 0) (xs ys : List X) → Every P (xs ++ ys) → Every P xs × Every P ys
every_front P [] ys h = (tt, h)
every_front P (x ∷ xs) ys h = let rest = every_front P xs ys h.1 in ((h.0, rest.0), rest.1)

every_parts : {X Y : Type 0} (P : Y → Type 0) (f : X → List Y) (xs : List X) → Every P (flat_map f xs) → Every (λ x. Every P (f x)) xs
every_parts P f [] h = tt
every_parts P f (x ∷ xs) h = let parts = every_front P (f x) (flat_map f xs) h in (parts.0, every_parts P f xs parts.1)

parts_every : {X Y : Type 0} (P : Y → Type 0) (f : X → List Y) (xs : List X) → Every (λ x. Every P (f x)) xs → Every P (flat_map f xs)
parts_every P f [] h = tt
parts_every P f (x ∷ xs) h = every-append P (f x) (flat_map f xs) h.0 (parts_every P f xs h.1)

every_map : {X Y : Type 0} (P : Y → Type 0) (f : X → Y) (xs : List X) → Every P (map f xs) → Every (λ x. P (f x)) xs
every_map P f [] h = tt
every_map P f (x ∷ xs) h = (h.0, every_map P f xs h.1)

map_every : {X Y : Type 0} (P : Y → Type 0) (f : X → Y) (xs : List X) → Every (λ x. P (f x)) xs → Every P (map f xs)
map_every P f [] h = tt
map_every P f (x ∷ xs) h = (h.0, map_every P f xs h.1)

pub every_in : {X : Type 0} (P : X → Type 0) (xs : List X) (x : X) → Every P xs → Contains xs x → P x
every_in P xs x h i = All-contains P xs x (every_all P xs h) i

pub every_by : {X : Type 0} (P : X → Type 0) (xs : List X) → ((x : X) → Contains xs x → P x) → Every P xs
every_by P xs h = every-weaker (Contains xs) P h xs (all_every (Contains xs) xs (All-contains_itself xs))

not_less : (a b : ℤ) → a ≤ℤ b → int_lt b a ≡ false
not_less a b h = grind (arith, ints)

record AreNone {A B : Type 0} (o : Option A) (q : Option B) : Type 0 where
  first : o ≡ None
  second : q ≡ None

ok_none : (o : Option PairPlace) (q : Option PatternPlace) (v w : LeafValue) → verdict_by o q v ≡ Ok w → AreNone o q
ok_none (Some p) q v w e = absurd (cc e)
ok_none None (Some x) v w e = absurd (cc e)
ok_none None None v w e = record { first = refl; second = refl }

module _ (c : CaseRecord) (lists : Lists) (l : LeafRecord) where
  abbrev PairPasses : PairPlace → Type 0
  PairPasses x = pair_fails c l x ≡ false

  abbrev PatternPasses : PatternPlace → Type 0
  PatternPasses x = pattern_fails c l x ≡ false

  abbrev pair_list : List PairPlace
  pair_list = flat_map (pair_places lists) (train_pairs (length c.book))

  abbrev pattern_list : List PatternPlace
  pattern_list = flat_map (pattern_places lists) (numbers (length c.book))

  pair_passes : Every PairPasses pair_list → (s t i j : ℕ) → s < t → t < length c.book → Contains (list_of lists s) i → Contains (list_of lists t) j
      → PairPasses (record { first = s; second = t; i = i; j = j })
  pair_passes h s t i j a b ci cj =
      let pairs = every_parts PairPasses (pair_places lists) (train_pairs (length c.book)) h in
      let pair = every_in (λ p. Every PairPasses (pair_places lists p)) (train_pairs (length c.book)) (record { first = s; second = t }) pairs
      (in_pairs (length c.book) s t a b) in
      let rows = every_parts PairPasses (λ n. map (λ m. record { first = s; second = t; i = n; j = m }) (list_of lists t)) (list_of lists s) pair in
      let row = every_in (λ n. Every PairPasses (map (λ m. record { first = s; second = t; i = n; j = m }) (list_of lists t))) (list_of lists s) i rows ci in
      every_in (λ m. PairPasses (record { first = s; second = t; i = i; j = m })) (list_of lists t) j
      (every_map PairPasses (λ m. record { first = s; second = t; i = i; j = m }) (list_of lists t) row) cj

  pattern_passes : Every PatternPasses pattern_list → (t i : ℕ) → t < length c.book → Contains (list_of lists t) i
      → PatternPasses (record { train = t; number = i })
  pattern_passes h t i a ci =
      let trains = every_parts PatternPasses (pattern_places lists) (numbers (length c.book)) h in
      let train = every_in (λ n. Every PatternPasses (pattern_places lists n)) (numbers (length c.book)) t trains (in_numbers (length c.book) t a) in
      every_in (λ n. PatternPasses (record { train = t; number = n })) (list_of lists t) i
      (every_map PatternPasses (λ n. record { train = t; number = n }) (list_of lists t) train) ci

  pub ok_stands : (v : LeafValue) → pos 1 ≤ℤ l.q → ((p : ℕ) (m : ℤ) → pos 0 ≤ℤ l.v p m) → verdict_of c lists l ≡ Ok v → StandsFor c lists l
  unfolding verdict_of first_pair first_pattern
  ok_stands v scale minute e =
      let none = ok_none (first_pair c lists l) (first_pattern c lists l) (answer_of c l) v e in
      let pairs = all_every PairPasses pair_list (none_pass (pair_fails c l) pair_list none.first) in
      let patterns = all_every PatternPasses pattern_list (none_pass (pattern_fails c l) pattern_list none.second) in
      record {
        scale = scale;
        minute = minute;
        pair = λ s t i j a b ci cj. at_most _ _ (pair_passes pairs s t i j a b ci cj);
        pattern = λ t i a ci. at_most _ _ (pattern_passes patterns t i a ci);
      }

  pairs_pass : StandsFor c lists l → Every PairPasses pair_list
  pairs_pass s =
      parts_every PairPasses (pair_places lists) (train_pairs (length c.book))
      (every-weaker (IsTrainPair (length c.book)) (λ p. Every PairPasses (pair_places lists p))
      (λ p q. parts_every PairPasses (λ n. map (λ m. record { first = p.first; second = p.second; i = n; j = m }) (list_of lists p.second)) (list_of lists p.first)
      (every_by (λ n. Every PairPasses (map (λ m. record { first = p.first; second = p.second; i = n; j = m }) (list_of lists p.second))) (list_of lists p.first)
      (λ n cn. map_every PairPasses (λ m. record { first = p.first; second = p.second; i = n; j = m }) (list_of lists p.second)
      (every_by (λ m. PairPasses (record { first = p.first; second = p.second; i = n; j = m })) (list_of lists p.second)
      (λ m cm. not_less _ _ (s.pair p.first p.second n m q.order q.there cn cm))))))
      (train_pairs (length c.book)) (all_every (IsTrainPair (length c.book)) (train_pairs (length c.book)) (all_pairs_there (length c.book))))

  patterns_pass : StandsFor c lists l → Every PatternPasses pattern_list
  patterns_pass s =
      parts_every PatternPasses (pattern_places lists) (numbers (length c.book))
      (every-weaker (λ t. t < length c.book) (λ t. Every PatternPasses (pattern_places lists t))
      (λ t h. map_every PatternPasses (λ n. record { train = t; number = n }) (list_of lists t)
      (every_by (λ n. PatternPasses (record { train = t; number = n })) (list_of lists t) (λ n cn. not_less _ _ (s.pattern t n h cn))))
      (numbers (length c.book)) (all_every (λ t. t < length c.book) (numbers (length c.book)) (numbers_below (length c.book))))

  pub stands_ok : StandsFor c lists l → verdict_of c lists l ≡ Ok (answer_of c l)
  unfolding first_pair first_pattern
  stands_ok s =
      sym (value_verdict c lists l (answer_of c l)
      (none_found (pair_fails c l) pair_list (every_all PairPasses pair_list (pairs_pass s)))
      (none_found (pattern_fails c l) pattern_list (every_all PatternPasses pattern_list (patterns_pass s))) refl)
