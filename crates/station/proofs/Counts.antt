-- The sums of `specs/Counted.antt` are the length of the list of allowed patterns.
use Rattle.std.proofs.Common.{◌≡◌, ℕ, zero, suc, ◌+◌, ◌*◌, List, [], ◌∷◌, length, map, Bool, true, false, cond, ◌&&◌, ◌==◌, Option, Some, None, is_none, slice_get, refl, ap, ◌∙◌, arith, length-append, ℤ, pos, ◌+ℤ◌, int_le, add-one}
use Rattle.std.specs.Prelude.{filter, flat_map}
use Rattle.std.specs.List.{list_any, range_with_len}
use Rattle.std.proofs.lemmas.List.Elements.{filter-append}
use Rattle.station.specs.declared.part.Platform.{Platform}
use Rattle.station.specs.declared.part.PathWay.{PathWay}
use Rattle.station.specs.declared.part.PathWay.TheVariants.{In, Out}
use Rattle.station.specs.declared.part.Train.{Train}
use Rattle.station.specs.declared.part.Pattern.{Pattern}
use Rattle.station.specs.Allowed.{StationRecord, numbers, path_choices, window, is_path_of, is_way_served, is_dummy, are_paths_allowed, is_allowed, allowed_list}
use Rattle.station.specs.Counted.{total, ways, departures, times, on_platform, counted}

pub total-same : {X : Type 0} (f g : X → ℕ) → ((x : X) → f x ≡ g x) → (xs : List X) → total f xs ≡ total g xs
total-same f g same [] = refl
total-same f g same (x ∷ xs) = rw (same x, total-same f g same xs)

total-zero : {X : Type 0} (xs : List X) → total (λ x. 0) xs ≡ 0
total-zero [] = refl
total-zero (x ∷ xs) = omega (arith, total-zero xs)

length-filter-flat_map : {X A : Type 0} (test : A → Bool) (f : X → List A) (xs : List X) → length (filter test (flat_map f xs)) ≡ total (λ x. length (filter test (f x))) xs
length-filter-flat_map test f [] = refl
length-filter-flat_map test f (x ∷ xs) =
    rw (filter-append test (f x) (flat_map f xs), length-append (filter test (f x)) (filter test (flat_map f xs)), length-filter-flat_map test f xs)

one_kept : {A : Type 0} (b : Bool) (x : A) (xs : List A) → length (cond b (x ∷ xs) xs) ≡ cond b 1 0 + length xs
one_kept true x xs = omega arith
one_kept false x xs = omega arith

length-filter-map : {X A : Type 0} (test : A → Bool) (g : X → A) (xs : List X) → length (filter test (map g xs)) ≡ total (λ x. cond (test (g x)) 1 0) xs
length-filter-map test g [] = refl
length-filter-map test g (x ∷ xs) = one_kept (test (g x)) (g x) _ ∙ ap (λ n. cond (test (g x)) 1 0 + n) (length-filter-map test g xs)

-- a test that does not depend on the element
gated : {X : Type 0} (b : Bool) (f : X → ℕ) (xs : List X) → total (λ x. cond b (f x) 0) xs ≡ cond b (total f xs) 0
gated true f xs = refl
gated false f xs = total-zero xs

both_gates : (b c : Bool) (n : ℕ) → cond (b && c) n 0 ≡ cond b (cond c n 0) 0
both_gates true c n = refl
both_gates false c n = refl

-- as many of one size
scaled_one : (b : Bool) (n rest : ℕ) → cond b n 0 + rest * n ≡ (cond b 1 0 + rest) * n
scaled_one true n rest = grind arith
scaled_one false n rest = grind arith

scaled : {X : Type 0} (test : X → Bool) (n : ℕ) (xs : List X) → total (λ x. cond (test x) n 0) xs ≡ total (λ x. cond (test x) 1 0) xs * n
scaled test n [] = omega arith
scaled test n (x ∷ xs) = ap (λ m. cond (test x) n 0 + m) (scaled test n xs) ∙ scaled_one (test x) n (total (λ x. cond (test x) 1 0) xs)

gate_scaled : (b : Bool) (c n : ℕ) → cond b (c * n) 0 ≡ cond b (c * n) 0
gate_scaled b c n = refl

-- pairs of two independent choices, each pair of one size
crossed : {X Y : Type 0} (u : X → Bool) (v : Y → Bool) (n : ℕ) (xs : List X) (ys : List Y)
    → total (λ x. total (λ y. cond (u x && v y) n 0) ys) xs ≡ (total (λ x. cond (u x) 1 0) xs * total (λ y. cond (v y) 1 0) ys) * n
crossed u v n xs ys =
    total-same _ _ (λ x. total-same _ _ (λ y. both_gates (u x) (v y) n) ys ∙ gated (u x) (λ y. cond (v y) n 0) ys ∙ ap (λ m. cond (u x) m 0) (scaled v n ys)) xs
    ∙ scaled u (total (λ y. cond (v y) 1 0) ys * n) xs
    ∙ grind arith

-- ---- elements by their numbers

shifted : (g : ℕ → ℕ) (n a : ℕ) → total g (range_with_len (a + 1) n) ≡ total (λ k. g (k + 1)) (range_with_len a n)
shifted g zero a = refl
shifted g (suc n) a = ap (λ m. g (a + 1) + m) (shifted g n (a + 1))

-- each element with its number, from n
abbrev by_number : {X : Type 0} → (ℕ → Option X → ℕ) → ℕ → List X → ℕ
by_number h n [] = 0
by_number h n (x ∷ xs) = h n (Some x) + by_number h (n + 1) xs

numbered : {X : Type 0} (h : ℕ → Option X → ℕ) (n : ℕ) (xs : List X) → total (λ k. h (n + k) (slice_get xs k)) (range_with_len 0 (length xs)) ≡ by_number h n xs
numbered h n [] = refl
numbered h n (x ∷ xs) =
    let head : n + 0 ≡ n = omega arith in
    let next : (k : ℕ) → n + (k + 1) ≡ n + 1 + k = λ k. omega arith in
    let same : (k : ℕ) → h (n + (k + 1)) (slice_get (x ∷ xs) (k + 1)) ≡ h (n + 1 + k) (slice_get xs k) = λ k. rw (next k, add-one k) in
    rw (head, shifted (λ k. h (n + k) (slice_get (x ∷ xs) k)) (length xs) 0)
    (ap (λ m. h n (Some x) + m) (total-same (λ k. h (n + (k + 1)) (slice_get (x ∷ xs) (k + 1))) (λ k. h (n + 1 + k) (slice_get xs k)) same (range_with_len 0 (length xs)) ∙ numbered h (n + 1) xs))

-- ---- the choices of paths

total-map : {X Y : Type 0} (f : Y → ℕ) (g : X → Y) (xs : List X) → total f (map g xs) ≡ total (λ x. f (g x)) xs
total-map f g [] = refl
total-map f g (x ∷ xs) = ap (λ n. f (g x) + n) (total-map f g xs)

by_number-plain : {X : Type 0} (f : Option X → ℕ) (n : ℕ) (xs : List X) → by_number (λ _ o. f o) n xs ≡ total (λ x. f (Some x)) xs
by_number-plain f n [] = refl
by_number-plain f n (x ∷ xs) = ap (λ m. f (Some x) + m) (by_number-plain f (n + 1) xs)

no_path : (n : ℕ) → total (λ i. cond (is_none i) 1 0) (path_choices n) ≡ 1
no_path n = ap (λ m. 1 + m) (total-map (λ i. cond (is_none i) 1 0) Some (numbers n) ∙ total-zero (numbers n))

served_ways : (r : StationRecord) (way : PathWay) (direction : Option ℕ) (p : ℕ)
    → total (λ i. cond (is_way_served r way direction p i) 1 0) (path_choices (length r.paths)) ≡ ways way direction p r.paths
served_ways r way None p = no_path (length r.paths)
served_ways r way (Some d) p =
    let start : 0 + total (λ i. cond (is_way_served r way (Some d) p i) 1 0) (map Some (numbers (length r.paths))) ≡ total (λ i. cond (is_way_served r way (Some d) p i) 1 0) (map Some (numbers (length r.paths))) = omega arith in
    start
    ∙ total-map (λ i. cond (is_way_served r way (Some d) p i) 1 0) Some (numbers (length r.paths))
    ∙ numbered (λ _ x. cond (is_path_of way d p x) 1 0) 0 r.paths
    ∙ by_number-plain (λ x. cond (is_path_of way d p x) 1 0) 0 r.paths

-- ---- the tuples, level by level

module _ (r : StationRecord) (t : Train) where
  abbrev pub departs : List ℤ
  departs = window t.depart t.depart_early t.depart_late

  abbrev pub arrives : List ℤ
  arrives = window t.arrive t.arrive_early t.arrive_late

  abbrev pub choices : List (Option ℕ)
  choices = path_choices (length r.paths)

  abbrev pub at_minutes : ℕ → Option ℕ → Option ℕ → ℤ → ℤ → Pattern
  at_minutes p i o a d = record { platform = p; path_in = i; path_out = o; arrive = a; depart = d }

  abbrev pub at_arrival : ℕ → Option ℕ → Option ℕ → ℤ → List Pattern
  at_arrival p i o a = map (at_minutes p i o a) departs

  abbrev pub at_paths : ℕ → Option ℕ → Option ℕ → List Pattern
  at_paths p i o = flat_map (at_arrival p i o) arrives

  abbrev pub at_path_in : ℕ → Option ℕ → List Pattern
  at_path_in p i = flat_map (at_paths p i) choices

  abbrev pub at_platform : ℕ → List Pattern
  at_platform p = flat_map (at_path_in p) choices

  abbrev listed : ℕ → Bool
  listed p = list_any (λ q. q == p) t.platforms

  abbrev path_test : ℕ → Option Platform → Option ℕ → Option ℕ → Bool
  path_test p x i o = cond (is_dummy x) (is_none i && is_none o) (is_way_served r In t.from p i && is_way_served r Out t.to p o)

  arrival_count : (p : ℕ) (i o : Option ℕ) (a : ℤ)
      → length (filter (is_allowed r t) (at_arrival p i o a)) ≡ cond (listed p && are_paths_allowed r t p i o) (departures t a) 0
  unfolding departures
  arrival_count p i o a =
      length-filter-map (is_allowed r t) (at_minutes p i o a) departs
      ∙ total-same _ _ (λ d. both_gates (listed p && are_paths_allowed r t p i o) (int_le (a +ℤ pos t.dwell) d) 1) departs
      ∙ gated (listed p && are_paths_allowed r t p i o) (λ d. cond (int_le (a +ℤ pos t.dwell) d) 1 0) departs

  paths_count : (p : ℕ) (i o : Option ℕ)
      → length (filter (is_allowed r t) (at_paths p i o)) ≡ cond (listed p && are_paths_allowed r t p i o) (times t) 0
  unfolding times
  paths_count p i o =
      length-filter-flat_map (is_allowed r t) (at_arrival p i o) arrives
      ∙ total-same _ _ (arrival_count p i o) arrives
      ∙ gated (listed p && are_paths_allowed r t p i o) (departures t) arrives

  -- the sum over the choices of paths at a platform
  abbrev over_choices : ℕ → Option Platform → ℕ
  over_choices p x = total (λ i. total (λ o. cond (listed p && path_test p x i o) (times t) 0) choices) choices

  platform_count : (p : ℕ) → length (filter (is_allowed r t) (at_platform p)) ≡ over_choices p (slice_get r.platforms p)
  platform_count p =
      length-filter-flat_map (is_allowed r t) (at_path_in p) choices
      ∙ total-same _ _ (λ i. length-filter-flat_map (is_allowed r t) (at_paths p i) choices ∙ total-same _ _ (paths_count p i) choices) choices

  pairs_of : (p : ℕ) (dummy : Bool)
      → total (λ i. total (λ o. cond (cond dummy (is_none i && is_none o) (is_way_served r In t.from p i && is_way_served r Out t.to p o)) (times t) 0) choices) choices
      ≡ cond dummy 1 (ways In t.from p r.paths * ways Out t.to p r.paths) * times t
  pairs_of p true = crossed is_none is_none (times t) choices choices ∙ rw no_path
  pairs_of p false =
      crossed (is_way_served r In t.from p) (is_way_served r Out t.to p) (times t) choices choices
      ∙ rw (served_ways r In t.from p, served_ways r Out t.to p)

  choices_of : (p : ℕ) (x : Platform) → over_choices p (Some x) ≡ on_platform r.paths t p x
  choices_of p x =
      total-same _ _ (λ i. total-same _ _ (λ o. both_gates (listed p) (path_test p (Some x) i o) (times t)) choices ∙ gated (listed p) (λ o. cond (path_test p (Some x) i o) (times t) 0) choices) choices
      ∙ gated (listed p) (λ i. total (λ o. cond (path_test p (Some x) i o) (times t) 0) choices) choices
      ∙ ap (λ n. cond (listed p) n 0) (pairs_of p x.dummy)

  platforms_of : (n : ℕ) (xs : List Platform) → by_number over_choices n xs ≡ counted r.paths t n xs
  platforms_of n [] = refl
  platforms_of n (x ∷ xs) = rw (choices_of n x, platforms_of (n + 1) xs)

  from_zero : (k : ℕ) → over_choices k (slice_get r.platforms k) ≡ over_choices (0 + k) (slice_get r.platforms k)
  from_zero k = let e : k ≡ 0 + k = omega arith in ap (λ m. over_choices m (slice_get r.platforms k)) e

  -- the list of allowed patterns is as long as the sums say
  pub length-allowed_list : length (allowed_list r t) ≡ counted r.paths t 0 r.platforms
  unfolding allowed_list
  length-allowed_list =
      length-filter-flat_map (is_allowed r t) at_platform (numbers (length r.platforms))
      ∙ total-same _ _ (λ p. platform_count p ∙ from_zero p) (numbers (length r.platforms))
      ∙ numbered over_choices 0 r.platforms
      ∙ platforms_of 0 r.platforms
