-- The leaf of one plan stands, and its value is the plan's cost.
use Rattle.std.proofs.Common.{◌≡◌, ℕ, ◌+◌, ◌-◌, ◌<◌, ◌==◌, ◌&&◌, Bool, true, false, eqb, cond, List, [], ◌∷◌, length, refl, sym, ap, ◌∙◌, subst, arith, Option, None, Some, ℤ, pos, neg_ℤ, ◌+ℤ◌, ◌*ℤ◌, ◌≤ℤ◌, ◌<ℤ◌}
use Rattle.std.specs.Prelude.{Contains, IsTrue, find, is_some, slice_get, slice_index, int_le, int_lt, ◌||◌}
use Rattle.std.specs.List.{All, list_any, range_with_len}
use Rattle.std.proofs.lemmas.Int.{ints, clamps}
use Rattle.std.proofs.lemmas.Bool.{eq-eqb, eqb-true}
use Rattle.std.proofs.lemmas.Bool.Decides.{nat_tests}
use Rattle.std.specs.Ordering.{int_eq}
use Rattle.std.proofs.lemmas.List.Elements.{All-contains, All-nil, All-weaker}
use Rattle.station.specs.Allowed.{numbers}
use Rattle.station.specs.declared.part.Pattern.{Pattern}
use Rattle.path_conflicts.specs.Minutes.{minutes, free_from, headway_of, is_within}
use Rattle.patterns.specs.Book.{pattern_at, price_at}
use Rattle.patterns.specs.Allowed.{Lists, list_of}
use Rattle.pair_prices.specs.Case.{CaseRecord, IsCase}
use Rattle.pair_prices.specs.Plan.{Fits, IsFeasible, chosen, cost, is_clash, is_used, pair_cost, pair_cost_at, pattern_cost, platform_cost, platform_price}
use Rattle.pair_prices.specs.Top.{sealed_price, top_of}
use Rattle.pair_prices.proofs.Above.{IsTrainPair, all_pairs_there}
use Rattle.pair_prices.specs.Trains.{TrainPair, pairs_with, train_pairs}
use Rattle.leaf_bounds.specs.declared.potentials.Side.TheVariants.{First, Second}
use Rattle.leaf_bounds.specs.declared.leaf.Leaf.{Leaf}
use Rattle.leaf_bounds.specs.Fixed.{IsLeafOfPlan, is_train, listed_minute, listed_pair, minute_entry, minute_list, opener, opening, pair_list, pairs_paid, paid, sealed_at}
use Rattle.leaf_bounds.specs.Building.{value_list}
use Rattle.leaf_bounds.specs.Leaf.{PatternHolds, StandsFor, excess, held, is_empty, value_of}
use Rattle.leaf_bounds.specs.Listed.{is_at, pair_listed, u_listed, v_listed}
use Rattle.leaf_bounds.specs.Places.{value_within}
use Rattle.leaf_bounds.specs.Shown.{numbers_of, IsPairThere}
use Rattle.leaf_bounds.specs.Sides.{value_on}
use Rattle.leaf_bounds.specs.Total.{only_if, total}
use Rattle.leaf_bounds.proofs.BareLemmas.{total_pos, value_listed}
use Rattle.leaf_bounds.proofs.MadeLemmas.{all_same}
use Rattle.leaf_bounds.proofs.PlanLists.{chosen_sound, find_passes, opener_there}
use Rattle.leaf_bounds.proofs.SwapLemmas.{all_is, held_is, pair_at, potentials_are, total_flat_map, total_map}
use Rattle.leaf_bounds.proofs.Totals.{total_add, total_at, total_none, total_numbers_le, total_numbers_same, total_same, total_swap, total_least, term_le}
use Rattle.leaf_bounds.proofs.VerdictLemmas.{in_pairs, none_pass, v_least}

-- an entry that is listed unless it is 0
if_listed : {X : Type 0} (f : X → ℤ) (test : X → Bool) (n : ℕ) (b : Bool) (x : X) → (n == 0) ≡ b → f x ≡ only_if (test x) (pos n)
    → total f (cond b [] (x ∷ [])) ≡ only_if (test x) (pos n)
if_listed f test n true x e h = none (test x) ∙ ap (λ k. only_if (test x) (pos k)) (sym (eqb-true n 0 e))
  where
    none : (d : Bool) → pos 0 ≡ only_if d (pos 0)
    none true = refl
    none false = refl
if_listed f test n false x e h = omega (arith, ints, h)

eqb_sym : (a b : ℕ) → eqb a b ≡ eqb b a
eqb_sym a b = grind (arith, nat_tests)

only_both : (a b : Bool) (z : ℤ) → only_if (a && b) z ≡ only_if a (only_if b z)
only_both true b z = refl
only_both false b z = refl

only_three : (a b d : Bool) (z : ℤ) → only_if (a && b && d) z ≡ only_if (a && b) (only_if d z)
only_three true true d z = refl
only_three true false d z = refl
only_three false b d z = refl

find_le_by : {X : Type 0} (p : X → Bool) (f : X → ℤ) (y x : X) (ys : List X) (b : Bool) → cond b (Some y) (find p ys) ≡ Some x → pos 0 ≤ℤ f y
    → pos 0 ≤ℤ total f ys → (find p ys ≡ Some x → f x ≤ℤ total f ys) → f x ≤ℤ (f y +ℤ total f ys)
find_le_by p f y x ys true e here rest most =
    let same : y ≡ x = cc in
    let value = ap f same in
    omega (arith, ints, rest, value)
find_le_by p f y x ys false e here rest most = let later = most e in omega (arith, ints, here, later)

-- what is found is one term of a sum
find_le : {X : Type 0} (p : X → Bool) (f : X → ℤ) (xs : List X) (x : X) → find p xs ≡ Some x → ((y : X) → pos 0 ≤ℤ f y) → f x ≤ℤ total f xs
find_le p f [] x e h = cc
find_le p f (y ∷ ys) x e h = find_le_by p f y x ys (p y) e (h y) (total_least f ys h) (λ g. find_le p f ys x g h)

le_true : (a b : ℤ) → a ≤ℤ b → int_le a b ≡ true
le_true a b h = grind (arith, ints)

only_least : (b : Bool) (n : ℕ) → pos 0 ≤ℤ only_if b (pos n)
only_least true n = omega (arith, ints)
only_least false n = omega (arith, ints)

only_most : (b : Bool) (n : ℕ) → only_if b (pos n) ≤ℤ pos n
only_most true n = omega (arith, ints)
only_most false n = omega (arith, ints)

module _ (c : CaseRecord) (plan : List ℕ) where
  -- what a pair's entry is at a pattern
  abbrev worth : TrainPair → ℤ
  worth p = pos (sealed_at c plan p)

  entry_at : (p q : TrainPair) (i : ℕ) → total (λ x. only_if (is_at p i x) x.value) (listed_pair c plan q)
      ≡ only_if (p.first == q.first && p.second == q.second) (only_if (slice_index plan q.first == i) (worth q))
  entry_at p q i =
      if_listed (λ x. only_if (is_at p i x) x.value) (is_at p i) (sealed_at c plan q) (sealed_at c plan q == 0)
      (record { first = q.first; second = q.second; number = slice_index plan q.first; value = worth q }) refl refl
      ∙ (λ j. only_if (eqb_sym q.first p.first j && eqb_sym q.second p.second j && slice_index plan q.first == i) (worth q))
      ∙ only_three (p.first == q.first) (p.second == q.second) (slice_index plan q.first == i) (worth q)

  -- at a pattern a pair has at most what it costs
  pair_is : (s t i : ℕ) → s < t → t < length c.book
      → pair_listed (pair_list c plan) (record { first = s; second = t }) i
      ≡ only_if (slice_index plan s == i) (worth (record { first = s; second = t }))
  unfolding pair_list
  pair_is s t i h l =
      let p : TrainPair = record { first = s; second = t } in
      total_flat_map (λ x. only_if (is_at p i x) x.value) (listed_pair c plan) (train_pairs (length c.book))
      ∙ total_same (λ q. total (λ x. only_if (is_at p i x) x.value) (listed_pair c plan q))
      (λ q. only_if (s == q.first && t == q.second) (only_if (slice_index plan q.first == i) (worth q))) (train_pairs (length c.book))
      (all_same (λ q. total (λ x. only_if (is_at p i x) x.value) (listed_pair c plan q))
      (λ q. only_if (s == q.first && t == q.second) (only_if (slice_index plan q.first == i) (worth q))) (train_pairs (length c.book)) (λ q. entry_at p q i))
      ∙ pair_at (λ q. only_if (slice_index plan q.first == i) (worth q)) s t (length c.book) h l

  pub pair_most : (s t i : ℕ) → s < t → t < length c.book
      → pair_listed (pair_list c plan) (record { first = s; second = t }) i ≤ℤ worth (record { first = s; second = t })
  pair_most s t i h l =
      let e = pair_is s t i h l in
      let most = only_most (slice_index plan s == i) (sealed_at c plan (record { first = s; second = t })) in
      omega (arith, ints, e, most)

  -- a train's pairs at its pattern
  first_entry : (t : ℕ) (q : TrainPair) → total (value_on First t (slice_index plan t)) (listed_pair c plan q) ≡ only_if (t == q.first) (worth q)
  first_entry t q =
      if_listed (value_on First t (slice_index plan t)) (λ x. x.first == t && x.number == slice_index plan t) (sealed_at c plan q) (sealed_at c plan q == 0)
      (record { first = q.first; second = q.second; number = slice_index plan q.first; value = worth q }) refl refl
      ∙ own (q.first == t) refl
    where
      own : (b : Bool) → (q.first == t) ≡ b → only_if (q.first == t && slice_index plan q.first == slice_index plan t) (worth q) ≡ only_if (t == q.first) (worth q)
      own true e =
          let same = eqb-true q.first t e in
          (λ j. only_if (e j && eq-eqb (slice_index plan q.first) (slice_index plan t) (ap (slice_index plan) same) j) (worth q))
          ∙ ap (λ b. only_if b (worth q)) (sym e ∙ eqb_sym q.first t)
      own false e = ap (λ b. only_if (b && slice_index plan q.first == slice_index plan t) (worth q)) e ∙ ap (λ b. only_if b (worth q)) (sym e ∙ eqb_sym q.first t)

  pull_first : (t s : ℕ) → total (λ q. only_if (t == q.first) (worth q)) (pairs_with (length c.book) s) ≡ only_if (eqb t s) (total worth (pairs_with (length c.book) s))
  pull_first t s =
      total_map (λ q. only_if (t == q.first) (worth q)) (λ k. record { first = s; second = k }) (range_with_len (s + 1) (length c.book - (s + 1)))
      ∙ pulled (eqb t s) (range_with_len (s + 1) (length c.book - (s + 1)))
      ∙ ap (only_if (eqb t s)) (sym (total_map worth (λ k. record { first = s; second = k }) (range_with_len (s + 1) (length c.book - (s + 1)))))
    where
      pulled : (b : Bool) (ks : List ℕ) → total (λ k. only_if b (worth (record { first = s; second = k }))) ks ≡ only_if b (total (λ k. worth (record { first = s; second = k })) ks)
      pulled true ks = refl
      pulled false ks = total_none ks

  pub first_sum : (t : ℕ) → t < length c.book → total (value_on First t (slice_index plan t)) (pair_list c plan) ≡ pos (pairs_paid c plan t)
  unfolding pair_list train_pairs pairs_paid
  first_sum t h =
      total_flat_map (value_on First t (slice_index plan t)) (listed_pair c plan) (train_pairs (length c.book))
      ∙ total_same (λ q. total (value_on First t (slice_index plan t)) (listed_pair c plan q)) (λ q. only_if (t == q.first) (worth q)) (train_pairs (length c.book))
      (all_same (λ q. total (value_on First t (slice_index plan t)) (listed_pair c plan q)) (λ q. only_if (t == q.first) (worth q)) (train_pairs (length c.book)) (first_entry t))
      ∙ total_flat_map (λ q. only_if (t == q.first) (worth q)) (pairs_with (length c.book)) (numbers (length c.book))
      ∙ total_numbers_same (λ s. total (λ q. only_if (t == q.first) (worth q)) (pairs_with (length c.book) s))
      (λ s. only_if (eqb t s) (total worth (pairs_with (length c.book) s))) (length c.book) (λ s l. pull_first t s)
      ∙ total_at (λ s. total worth (pairs_with (length c.book) s)) t (length c.book) h
      ∙ total_pos (sealed_at c plan) (pairs_with (length c.book) t)

-- the minutes
within_own : (a d : ℤ) (w : ℕ) → a <ℤ d → is_within a (d +ℤ pos w) a ≡ true
within_own a d w h = let later : a <ℤ (d +ℤ pos w) = omega (arith, ints, h) in (λ i. at_least a i && before a (d +ℤ pos w) later i)
  where
    at_least : (z : ℤ) → int_le z z ≡ true
    at_least z = grind (arith, ints)

    before : (y z : ℤ) → y <ℤ z → int_lt y z ≡ true
    before y z l = grind (arith, ints)

within_entry : (k j : ℕ) (s e m : ℤ) (n : ℕ) → total (value_within k s e) (minute_entry j m n) ≡ only_if (j == k && is_within s e m) (pos n)
within_entry k j s e m n =
    if_listed (value_within k s e) (λ x. x.platform == k && is_within s e x.minute) n (n == 0) (record { platform = j; minute = m; value = pos n }) refl refl

opened_entry : (k n : ℕ) (a e m : ℤ) (b : Bool) → (b ≡ true → m ≡ a) → is_within a e a ≡ true
    → pos (cond b n 0) ≤ℤ total (value_within k a e) (minute_entry k m n)
opened_entry k n a e m true h w =
    let same = within_entry k k a e m n in
    let all : only_if (k == k && is_within a e m) (pos n) ≡ pos n =
    ap (λ b. only_if (b && is_within a e m) (pos n)) (eq-eqb k k refl) ∙ ap (λ z. only_if (is_within a e z) (pos n)) (h refl) ∙ ap (λ b. only_if b (pos n)) w in
    omega (arith, ints, same, all)
opened_entry k n a e m false h w =
    let same = within_entry k k a e m n in
    let least = only_least (k == k && is_within a e m) n in
    omega (arith, ints, same, least)

pos_cond : (b : Bool) (n : ℕ) → only_if b (pos n) ≡ pos (cond b n 0)
pos_cond true n = refl
pos_cond false n = refl

zero_if : (b : Bool) → pos 0 ≡ only_if b (pos 0)
zero_if true = refl
zero_if false = refl

some_any : {X : Type 0} (p : X → Bool) (xs : List X) → is_some (find p xs) ≡ list_any p xs
some_any p [] = refl
some_any p (x ∷ xs) = by_test (p x) (some_any p xs)
  where
    by_test : (b : Bool) → is_some (find p xs) ≡ list_any p xs → is_some (cond b (Some x) (find p xs)) ≡ (b || list_any p xs)
    by_test true e = refl
    by_test false e = e

module _ (c : CaseRecord) (plan : List ℕ) (case : IsCase c) (fits : Fits c plan) where
  abbrev count : ℕ
  count = length c.station.platforms

  abbrev at : ℕ → Pattern
  at t = chosen c plan t

  least_within : (k : ℕ) (s e : ℤ) (j : ℕ) (o : Option ℕ) → pos 0 ≤ℤ total (value_within k s e) (listed_minute c plan j o)
  least_within k s e j None = omega (arith, ints)
  least_within k s e j (Some t) =
      let same = within_entry k j s e (at t).arrive (platform_price c j) in
      let least = only_least (j == k && is_within s e (at t).arrive) (platform_price c j) in
      omega (arith, ints, same, least)

  most_within : (k : ℕ) (s e : ℤ) (j : ℕ) (o : Option ℕ) → total (value_within k s e) (listed_minute c plan j o) ≤ℤ only_if (eqb k j) (pos (platform_price c j))
  most_within k s e j None = only_least (eqb k j) (platform_price c j)
  most_within k s e j (Some t) =
      let same = within_entry k j s e (at t).arrive (platform_price c j) in
      let most = one (j == k) (is_within s e (at t).arrive) (platform_price c j) in
      let turned = ap (λ b. only_if b (pos (platform_price c j))) (eqb_sym j k) in
      omega (arith, ints, same, most, turned)
    where
      one : (a b : Bool) (n : ℕ) → only_if (a && b) (pos n) ≤ℤ only_if a (pos n)
      one true b n = only_most b n
      one false b n = omega (arith, ints)

  -- the first train on a platform holds it at its arrival
  opened_by : (t : ℕ) (o : Option ℕ) → t < length c.book
      → pos (cond (is_train t o) (platform_price c (at t).platform) 0)
      ≤ℤ total (value_within (at t).platform (at t).arrive (free_from c.station (at t))) (listed_minute c plan (at t).platform o)
  opened_by t None h = omega (arith, ints)
  opened_by t (Some s) h =
      opened_entry (at t).platform (platform_price c (at t).platform) (at t).arrive (free_from c.station (at t)) (at s).arrive (s == t)
      (λ e. ap (λ k. (at k).arrive) (eqb-true s t e))
      (within_own (at t).arrive (at t).depart (headway_of (slice_get c.station.platforms (at t).platform)) (chosen_sound c plan case fits t h).stays)

  held_least : (l : Leaf) → l.v ≡ minute_list c plan count → (t : ℕ) → t < length c.book → pos (opening c plan t) ≤ℤ held c (numbers_of l) (at t)
  unfolding minute_list opening
  held_least l v t h =
      let is = held_is c l (at t) ∙ ap (total (value_within (at t).platform (at t).arrive (free_from c.station (at t)))) v
      ∙ total_flat_map (value_within (at t).platform (at t).arrive (free_from c.station (at t))) (λ k. listed_minute c plan k (opener c plan k)) (numbers count) in
      let one = term_le (λ k. total (value_within (at t).platform (at t).arrive (free_from c.station (at t))) (listed_minute c plan k (opener c plan k)))
      (at t).platform count
      (λ k. least_within (at t).platform (at t).arrive (free_from c.station (at t)) k (opener c plan k)) (chosen_sound c plan case fits t h).platform in
      let own = opened_by t (opener c plan (at t).platform) h in
      omega (arith, ints, is, one, own)

  -- no platform is paid more than its price
  paid_most : (l : Leaf) → l.v ≡ minute_list c plan count → (k : ℕ) → k < count → total (v_listed l.v k) minutes ≤ℤ pos (platform_price c k)
  unfolding minute_list
  paid_most l v k h =
      let is = all_is l k ∙ ap (total (value_within k (neg_ℤ (pos 90)) (pos 2969))) v
      ∙ total_flat_map (value_within k (neg_ℤ (pos 90)) (pos 2969)) (λ j. listed_minute c plan j (opener c plan j)) (numbers count) in
      let most = total_numbers_le (λ j. total (value_within k (neg_ℤ (pos 90)) (pos 2969)) (listed_minute c plan j (opener c plan j)))
      (λ j. only_if (eqb k j) (pos (platform_price c j))) count (λ j l. most_within k (neg_ℤ (pos 90)) (pos 2969) j (opener c plan j)) in
      let one = total_at (λ j. pos (platform_price c j)) k count h in
      omega (arith, ints, is, most, one)

  no_excess : (l : Leaf) → l.q ≡ pos 1 → l.v ≡ minute_list c plan count → (k : ℕ) → k < count → excess c (numbers_of l) k ≡ pos 0
  unfolding excess
  no_excess l q v k h =
      let most = paid_most l v k h in
      let price : l.q *ℤ pos (platform_price c k) ≡ pos (platform_price c k) = ap (λ (z : ℤ). z *ℤ pos (platform_price c k)) q ∙ omega (arith, ints) in
      omega (arith, ints, clamps, most, price)

  -- each platform that some train uses is opened once
  opens_own : (t k : ℕ) (z : ℤ) (o : Option ℕ) → opener c plan k ≡ o → only_if (is_train t o) z ≡ only_if (eqb (at t).platform k) (only_if (is_train t o) z)
  unfolding opener
  opens_own t k z None e = zero_if (eqb (at t).platform k)
  opens_own t k z (Some s) e = by_train (s == t) refl
    where
      by_train : (b : Bool) → (s == t) ≡ b → only_if b z ≡ only_if (eqb (at t).platform k) (only_if b z)
      by_train false f = zero_if (eqb (at t).platform k)
      by_train true f =
          sym (ap (λ d. only_if d z)
          (ap (λ j. eqb (at j).platform k) (sym (eqb-true s t f)) ∙ find_passes (λ j. (at j).platform == k) (numbers (length c.book)) s e))

  opening_is : (t : ℕ) → t < length c.book
      → pos (opening c plan t) ≡ total (λ k. only_if (is_train t (opener c plan k)) (pos (platform_price c k))) (numbers count)
  unfolding opening
  opening_is t h =
      sym (total_numbers_same (λ k. only_if (is_train t (opener c plan k)) (pos (platform_price c k)))
      (λ k. only_if (eqb (at t).platform k) (only_if (is_train t (opener c plan k)) (pos (platform_price c k)))) count
      (λ k l. opens_own t k (pos (platform_price c k)) (opener c plan k) refl)
      ∙ total_at (λ k. only_if (is_train t (opener c plan k)) (pos (platform_price c k))) (at t).platform count (chosen_sound c plan case fits t h).platform
      ∙ pos_cond (is_train t (opener c plan (at t).platform)) (platform_price c (at t).platform))

  opened_once : (k n : ℕ) (o : Option ℕ) → ((s : ℕ) → o ≡ Some s → s < n) → (z : ℤ) → total (λ t. only_if (is_train t o) z) (numbers n) ≡ only_if (is_some o) z
  opened_once k n None h z = total_none (numbers n)
  opened_once k n (Some s) h z = total_at (λ t. z) s n (h s refl)

  used_is : (k : ℕ) → is_some (opener c plan k) ≡ is_used c plan k
  unfolding opener
  used_is k = some_any (λ t. (at t).platform == k) (numbers (length c.book))

  openings : total (λ t. pos (opening c plan t)) (numbers (length c.book)) ≡ pos (platform_cost c plan)
  unfolding platform_cost
  openings =
      total_numbers_same (λ t. pos (opening c plan t)) (λ t. total (λ k. only_if (is_train t (opener c plan k)) (pos (platform_price c k))) (numbers count))
      (length c.book) opening_is
      ∙ total_swap (λ t k. only_if (is_train t (opener c plan k)) (pos (platform_price c k))) (numbers (length c.book)) (numbers count)
      ∙ total_numbers_same (λ k. total (λ t. only_if (is_train t (opener c plan k)) (pos (platform_price c k))) (numbers (length c.book)))
      (λ k. pos (cond (is_used c plan k) (platform_price c k) 0)) count
      (λ k l. opened_once k (length c.book) (opener c plan k) (opener_there c plan case fits k) (pos (platform_price c k))
      ∙ ap (λ b. only_if b (pos (platform_price c k))) (used_is k) ∙ pos_cond (is_used c plan k) (platform_price c k))
      ∙ total_pos (λ k. cond (is_used c plan k) (platform_price c k) 0) (numbers count)

  -- all that pairs pay
  abbrev whole : ℤ
  whole = total (worth c plan) (train_pairs (length c.book))

  pairs_whole : total (λ t. pos (pairs_paid c plan t)) (numbers (length c.book)) ≡ whole
  unfolding pairs_paid train_pairs
  pairs_whole =
      total_numbers_same (λ t. pos (pairs_paid c plan t)) (λ t. total (worth c plan) (pairs_with (length c.book) t)) (length c.book)
      (λ t l. sym (total_pos (sealed_at c plan) (pairs_with (length c.book) t)))
      ∙ sym (total_flat_map (worth c plan) (pairs_with (length c.book)) (numbers (length c.book)))

  prices : total (λ t. pos (price_at c.book t (slice_index plan t))) (numbers (length c.book)) ≡ pos (pattern_cost c plan)
  unfolding pattern_cost
  prices = total_pos (λ t. price_at c.book t (slice_index plan t)) (numbers (length c.book))

  module _ (l : Leaf) (h : IsLeafOfPlan c plan l) where
    value_is : value_of c (numbers_of l) ≡ (pos (pattern_cost c plan) +ℤ pos (platform_cost c plan)) +ℤ whole
    unfolding value_of
    value_is =
        let listed = ap (λ us. total (u_listed us) (numbers (length c.book))) h.u
        ∙ total_numbers_same (u_listed (value_list (paid c plan) (length c.book)))
        (λ t. (pos (price_at c.book t (slice_index plan t)) +ℤ pos (opening c plan t)) +ℤ pos (pairs_paid c plan t)) (length c.book)
        (λ t i. value_listed (paid c plan) (length c.book) t i)
        ∙ total_add (λ t. pos (price_at c.book t (slice_index plan t)) +ℤ pos (opening c plan t)) (λ t. pos (pairs_paid c plan t)) (numbers (length c.book)) in
        let two = total_add (λ t. pos (price_at c.book t (slice_index plan t))) (λ t. pos (opening c plan t)) (numbers (length c.book)) in
        let first = prices in
        let second = openings in
        let third = pairs_whole in
        let none = total_numbers_same (excess c (numbers_of l)) (λ k. pos 0) count (no_excess l h.q h.v) ∙ total_none (numbers count) in
        omega (arith, ints, listed, two, first, second, third, none)

    -- Where the plan is feasible, the value is its cost.
    pub cost_is : IsFeasible c plan → value_of c (numbers_of l) ≡ pos (cost c plan)
    unfolding cost pair_cost sealed_price
    cost_is f =
        let value = value_is in
        let pairs = total_same (worth c plan) (λ p. pos (pair_cost_at c plan p)) (train_pairs (length c.book))
        (All-weaker (IsTrainPair (length c.book)) (λ p. worth c plan p ≡ pos (pair_cost_at c plan p))
        (λ p q. ap (λ b. pos (cond b (top_of c) (pair_cost_at c plan p))) (f.apart p.first p.second q.order q.there)) (train_pairs (length c.book))
        (all_pairs_there (length c.book)))
        ∙ total_pos (pair_cost_at c plan) (train_pairs (length c.book)) in
        omega (arith, ints, value, pairs)

    clash_by : (o : Option TrainPair) → find (is_clash c plan) (train_pairs (length c.book)) ≡ o → (IsFeasible c plan → ⊥) → pos (top_of c) ≤ℤ whole
    unfolding sealed_price
    clash_by None e f =
        absurd (f (record {
          fits = fits;
          apart = λ s t i j. All-contains (λ p. is_clash c plan p ≡ false) (train_pairs (length c.book)) (record { first = s; second = t })
              (none_pass (is_clash c plan) (train_pairs (length c.book)) e) (in_pairs (length c.book) s t i j);
        }))
    clash_by (Some p) e f =
        let one = find_le (is_clash c plan) (worth c plan) (train_pairs (length c.book)) p e (λ q. omega (arith, ints)) in
        let same = ap (λ b. pos (cond b (top_of c) (pair_cost_at c plan p))) (find_passes (is_clash c plan) (train_pairs (length c.book)) p e) in
        omega (arith, ints, one, same)

    -- Where it isn't, the leaf is empty.
    pub empty_is : (IsFeasible c plan → ⊥) → IsTrue (is_empty c (numbers_of l))
    empty_is f =
        let value = value_is in
        let clash = clash_by (find (is_clash c plan) (train_pairs (length c.book))) refl f in
        let top : l.q *ℤ pos (top_of c) ≡ pos (top_of c) = ap (λ (z : ℤ). z *ℤ pos (top_of c)) h.q ∙ omega (arith, ints) in
        le_true (l.q *ℤ pos (top_of c)) (value_of c (numbers_of l)) (omega (arith, ints, value, clash, top))

    -- The leaf's numbers stand for lists that have the plan's numbers alone.
    pub plan_stands : (lists : Lists) → ((t i : ℕ) → t < length c.book → Contains (list_of lists t) i → i ≡ slice_index plan t)
        → All (IsPairThere c) l.alpha → StandsFor c lists (numbers_of l)
    plan_stands lists only there = record {
      scale = l.kept.q_least;
      minute = λ p m. v_least l.v l.kept.v_each (λ x. x.platform == p && int_eq x.minute m);
      pair = λ s t i j a b ci cj.
          let first = only s i (omega (arith, a, b)) ci in
          let second = only t j b cj in
          let most = pair_most c plan s t i a b in
          let alpha = ap (λ xs. pair_listed xs (record { first = s; second = t }) i) h.alpha in
          let beta = ap (λ xs. pair_listed xs (record { first = s; second = t }) j) h.beta in
          let sealed : l.q *ℤ pos (sealed_price c (pattern_at c.book s i) (pattern_at c.book t j)) ≡ worth c plan (record { first = s; second = t }) =
          (λ k. h.q k *ℤ pos (sealed_price c (pattern_at c.book s (first k)) (pattern_at c.book t (second k)))) ∙ omega (arith, ints) in
          omega (arith, ints, most, alpha, beta, sealed);
      pattern = λ t i a ci.
          subst (λ (n : ℕ). PatternHolds c (numbers_of l) t n) (sym (only t i a ci))
          (let own = ap (λ us. u_listed us t) h.u ∙ value_listed (paid c plan) (length c.book) t a in
          let price : l.q *ℤ pos (price_at c.book t (slice_index plan t)) ≡ pos (price_at c.book t (slice_index plan t)) =
          ap (λ (z : ℤ). z *ℤ pos (price_at c.book t (slice_index plan t))) h.q ∙ omega (arith, ints) in
          let pairs = potentials_are c l t (slice_index plan t) there (subst (All (IsPairThere c)) (sym h.beta) (All-nil (IsPairThere c))) in
          let first = ap (total (value_on First t (slice_index plan t))) h.alpha ∙ first_sum c plan t a in
          let second = ap (total (value_on Second t (slice_index plan t))) h.beta in
          let least = held_least l h.v t a in
          omega (arith, ints, own, price, pairs, first, second, least));
    }
