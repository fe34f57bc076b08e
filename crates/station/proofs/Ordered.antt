-- The list of a train's patterns is in ascending order.
use Rattle.std.proofs.Common.{◌≡◌, ℕ, zero, suc, ◌+◌, ◌<◌, List, [], ◌∷◌, length, map, Option, Some, None, refl, subst, arith, inl, inr, ℤ, pos, ◌+ℤ◌, ◌-ℤ◌, ◌<ℤ◌}
use Rattle.std.specs.Prelude.{flat_map}
use Rattle.std.specs.List.{range_with_len}
use Rattle.std.proofs.lemmas.Int.{ints}
use Rattle.station.specs.declared.part.Train.{Train}
use Rattle.station.specs.declared.part.Pattern.{Pattern}
use Rattle.station.specs.Allowed.{StationRecord, numbers, path_choices, window, tuples, is_allowed, allowed_list}
use Rattle.station.specs.Rules.{PathBefore, ComesBefore, ListsAscend}
use Rattle.station.proofs.Counts.{departs, arrives, choices, at_minutes, at_arrival, at_paths, at_path_in, at_platform}
use Rattle.station.proofs.Lists.{Every, Rising, rising-at, rising-filter, rising-append}
use Rattle.station.proofs.Among.{Among, from-flat_map, from-map, from-range}

every-all : {X : Type 0} (P : X → Type 0) (xs : List X) → ((x : X) → Among xs x → P x) → Every P xs
every-all P [] all = tt
every-all P (x ∷ xs) all = (all x (inl refl), every-all P xs (λ y a. all y (inr a)))

every-of : {X : Type 0} (P : X → Type 0) (xs : List X) → Every P xs → (x : X) → Among xs x → P x
every-of P [] all x h = absurd h
every-of P (y ∷ ys) all x (inl e) = subst P e all.0
every-of P (y ∷ ys) all x (inr h) = every-of P ys all.1 x h

rising-flat_map : {X Y : Type 0} (R : Y → Y → Type 0) (S : X → X → Type 0) (f : X → List Y) (xs : List X) → Rising S xs → ((x : X) → Rising R (f x))
    → ((x z : X) → S x z → (y w : Y) → Among (f x) y → Among (f z) w → R y w) → Rising R (flat_map f xs)
rising-flat_map R S f [] rising each across = tt
rising-flat_map R S f (x ∷ xs) rising each across =
    rising-append R (f x) (flat_map f xs) (each x) (rising-flat_map R S f xs rising.1 each across)
    (every-all (λ y. Every (R y) (flat_map f xs)) (f x)
    (λ y a. every-all (R y) (flat_map f xs)
    (λ w b. let z = from-flat_map f xs w b in across x z.0 (every-of (S x) xs rising.0 z.0 z.1) y w a z.2)))

rising-map : {X Y : Type 0} (R : Y → Y → Type 0) (S : X → X → Type 0) (f : X → Y) (xs : List X) → Rising S xs → ((x z : X) → S x z → R (f x) (f z)) → Rising R (map f xs)
rising-map R S f [] rising across = tt
rising-map R S f (x ∷ xs) rising across = (
  every-all (R (f x)) (map f xs) (λ w b. let z = from-map f xs w b in subst (R (f x)) z.2 (across x z.0 (every-of (S x) xs rising.0 z.0 z.1))),
  rising-map R S f xs rising.1 across,
)

-- ---- numbers, paths and minutes

abbrev Below : ℕ → ℕ → Type 0
Below i j = i < j

abbrev Earlier : ℤ → ℤ → Type 0
Earlier a b = a <ℤ b

range_rising : (a n : ℕ) → Rising Below (range_with_len a n)
range_rising a zero = tt
range_rising a (suc n) = (every-all (Below a) (range_with_len (a + 1) n) (λ k h. omega (arith, (from-range (a + 1) n k h).0)), range_rising (a + 1) n)

choices_rising : (n : ℕ) → Rising PathBefore (path_choices n)
choices_rising n = (
  every-all (PathBefore None) (map Some (numbers n)) (λ o h. let i = from-map Some (numbers n) o h in subst (PathBefore None) i.2 tt),
  rising-map PathBefore Below Some (numbers n) (range_rising 0 n) (λ i j h. h),
)

window_rising : (minute : ℤ) (early late : ℕ) → Rising Earlier (window minute early late)
window_rising minute early late = rising-map Earlier Below (λ k. (minute -ℤ pos early) +ℤ pos k) (numbers (early + late + 1)) (range_rising 0 (early + late + 1)) (λ i j h. omega (arith, ints))

-- ---- the tuples, level by level

before-same : (x y v w : Pattern) → v ≡ x → w ≡ y → ComesBefore v w → ComesBefore x y
before-same x y v w e f h = subst (ComesBefore x) f (subst (λ z. ComesBefore z w) e h)

module _ (r : StationRecord) (t : Train) where
  -- what the elements of each level are
  abbrev Made : Pattern → ℕ → Option ℕ → Option ℕ → ℤ → Type 0
  Made x p i o a = (d : ℤ) × (at_minutes r t p i o a d ≡ x)

  arrival_made : (p : ℕ) (i o : Option ℕ) (a : ℤ) (x : Pattern) → Among (at_arrival r t p i o a) x → Made x p i o a
  arrival_made p i o a x h = let d = from-map (at_minutes r t p i o a) (departs r t) x h in (d.0, d.2)

  paths_made : (p : ℕ) (i o : Option ℕ) (x : Pattern) → Among (at_paths r t p i o) x → (a : ℤ) × Made x p i o a
  paths_made p i o x h = let a = from-flat_map (at_arrival r t p i o) (arrives r t) x h in (a.0, arrival_made p i o a.0 x a.2)

  path_in_made : (p : ℕ) (i : Option ℕ) (x : Pattern) → Among (at_path_in r t p i) x → (o : Option ℕ) × (a : ℤ) × Made x p i o a
  path_in_made p i x h = let o = from-flat_map (at_paths r t p i) (choices r t) x h in let rest = paths_made p i o.0 x o.2 in (o.0, rest.0, rest.1)

  platform_made : (p : ℕ) (x : Pattern) → Among (at_platform r t p) x → (i : Option ℕ) × (o : Option ℕ) × (a : ℤ) × Made x p i o a
  platform_made p x h = let i = from-flat_map (at_path_in r t p) (choices r t) x h in let rest = path_in_made p i.0 x i.2 in (i.0, rest.0, rest.1, rest.2)

  arrival_rising : (p : ℕ) (i o : Option ℕ) (a : ℤ) → Rising ComesBefore (at_arrival r t p i o a)
  arrival_rising p i o a =
      rising-map ComesBefore Earlier (at_minutes r t p i o a) (departs r t) (window_rising t.depart t.depart_early t.depart_late)
      (λ d e h. inr (refl, inr (refl, inr (refl, inr (refl, h)))))

  paths_rising : (p : ℕ) (i o : Option ℕ) → Rising ComesBefore (at_paths r t p i o)
  paths_rising p i o =
      rising-flat_map ComesBefore Earlier (at_arrival r t p i o) (arrives r t) (window_rising t.arrive t.arrive_early t.arrive_late) (arrival_rising p i o)
      (λ a b h x y m n.
      let v = arrival_made p i o a x m in
      let w = arrival_made p i o b y n in
      before-same x y (at_minutes r t p i o a v.0) (at_minutes r t p i o b w.0) v.1 w.1 (inr (refl, inr (refl, inr (refl, inl h)))))

  path_in_rising : (p : ℕ) (i : Option ℕ) → Rising ComesBefore (at_path_in r t p i)
  path_in_rising p i =
      rising-flat_map ComesBefore PathBefore (at_paths r t p i) (choices r t) (choices_rising (length r.paths)) (paths_rising p i)
      (λ o q h x y m n.
      let v = paths_made p i o x m in
      let w = paths_made p i q y n in
      before-same x y (at_minutes r t p i o v.0 v.1.0) (at_minutes r t p i q w.0 w.1.0) v.1.1 w.1.1 (inr (refl, inr (refl, inl h))))

  platform_rising : (p : ℕ) → Rising ComesBefore (at_platform r t p)
  platform_rising p =
      rising-flat_map ComesBefore PathBefore (at_path_in r t p) (choices r t) (choices_rising (length r.paths)) (path_in_rising p)
      (λ i j h x y m n.
      let v = path_in_made p i x m in
      let w = path_in_made p j y n in
      before-same x y (at_minutes r t p i v.0 v.1 v.2.0) (at_minutes r t p j w.0 w.1 w.2.0) v.2.1 w.2.1 (inr (refl, inl h)))

  tuples_rising : Rising ComesBefore (tuples r t)
  tuples_rising =
      rising-flat_map ComesBefore Below (at_platform r t) (numbers (length r.platforms)) (range_rising 0 (length r.platforms)) platform_rising
      (λ p q h x y m n.
      let v = platform_made p x m in
      let w = platform_made q y n in
      before-same x y (at_minutes r t p v.0 v.1 v.2 v.3.0) (at_minutes r t q w.0 w.1 w.2 w.3.0) v.3.1 w.3.1 (inl h))

pub lists_ascend : (r : StationRecord) → ListsAscend r
unfolding allowed_list
lists_ascend r t = rising-at ComesBefore (allowed_list r t) (rising-filter ComesBefore (is_allowed r t) (tuples r t) (tuples_rising r t))
