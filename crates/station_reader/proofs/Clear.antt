-- What is known of a tree in which no class has a failing place.
use Rattle.std.proofs.Common.{◌≡◌, ℕ, zero, suc, ◌+◌, ◌≤◌, List, [], ◌∷◌, length, map, Bool, true, false, ◌&&◌, Option, Some, None, slice_get, refl, sym, ap, arith, nat_le, true≢false}
use Rattle.std.specs.Prelude.{IsTrue}
use borrow.Author.Tests.{leb-true}
use Rattle.serde_json.specs.Data.{Data}
use Rattle.station_reader.specs.declared.form.Edition.{Edition}
use Rattle.station_reader.specs.declared.member.Member.{Member}
use Rattle.station_reader.specs.declared.member.Member.TheVariants.{Threshold, ConflictPrice, BufferPrice, Directions, Platforms, Paths, Incompatible, Trains, Name, From, To, Surcharges}
use Rattle.station_reader.specs.First.{or_else, unless, each, each_from, occurs}
use Rattle.station.specs.Named.{is_name}
use Rattle.station_reader.specs.Tree.{entries, entries_at, text, text_at, text_if}
use Rattle.station_reader.specs.Classes.{list_count, train_count, count, direction_name, entry_name, name, unknown, range, station_range, direction_names, path_names, path_unknown, part_unknown, pair_unknown, end_unknown, train_unknown, platform_range, path_range, charge_range, train_range}
use Rattle.station_reader.specs.Passes.{IsClear, Each, AreFew, PlatformPasses, PathPasses, PairPasses, TrainPasses, TreePasses}

-- ---- where the first of several is none, each of them is

pub both : {A : Type 0} (a b : Option A) → or_else a b ≡ None → (a ≡ None) × (b ≡ None)
both None b e = (refl, e)
both (Some s) b e = absurd (cc)

pub holds : {A : Type 0} (b : Bool) (s : A) → unless b s ≡ None → b ≡ true
holds true s e = refl
holds false s e = absurd (cc)

each_from-none : {X A : Type 0} (fault : ℕ → X → Option A) (n : ℕ) (xs : List X) → each_from fault n xs ≡ None
    → (i : ℕ) (x : X) → slice_get xs i ≡ Some x → (m : ℕ) × (m ≡ n + i) × (fault m x ≡ None)
each_from-none fault n [] e i x is = absurd (cc)
each_from-none fault n (y ∷ xs) e zero x is =
    let here : y ≡ x = cc in
    (n, omega arith, rw (← here) (both (fault n y) (each_from fault (suc n) xs) e).0)
each_from-none fault n (y ∷ xs) e (suc i) x is =
    let later = each_from-none fault (suc n) xs (both (fault n y) (each_from fault (suc n) xs) e).1 i x is in
    (later.0, omega (arith, later.1), later.2)

pub each-none : {X A : Type 0} (fault : ℕ → X → Option A) (xs : List X) → each fault xs ≡ None → (i : ℕ) (x : X) → slice_get xs i ≡ Some x → fault i x ≡ None
each-none fault xs e i x is =
    let found = each_from-none fault 0 xs e i x is in
    let here : found.0 ≡ i = omega (arith, found.1) in
    rw (← here) found.2

-- ---- integers

module _ (e : Edition) (tree : Data) (c : IsClear e tree) where
  range_parts : (station_range Threshold tree ≡ None) × (station_range ConflictPrice tree ≡ None) × (station_range BufferPrice tree ≡ None)
      × (each platform_range (entries_at Platforms tree) ≡ None) × (each path_range (entries_at Paths tree) ≡ None) × (each train_range (entries_at Trains tree) ≡ None)
  unfolding range
  range_parts =
      let a = both _ _ c.range in
      let b = both _ _ a.1 in
      let d = both _ _ b.1 in
      let f = both _ _ d.1 in
      let g = both _ _ f.1 in
      let h = both _ _ g.1 in
      (a.0, b.0, d.0, f.0, g.0, h.0)

  name_parts : (each direction_name (entries_at Directions tree) ≡ None) × (each (entry_name Platforms) (entries_at Platforms tree) ≡ None)
      × (each (entry_name Paths) (entries_at Paths tree) ≡ None) × (each (entry_name Trains) (entries_at Trains tree) ≡ None)
  unfolding name
  name_parts =
      let a = both _ _ c.name in
      let b = both _ _ a.1 in
      let d = both _ _ b.1 in
      let f = both _ _ d.1 in
      (a.0, b.0, d.0, f.0)

  unknown_parts : (each (path_unknown tree) (entries_at Paths tree) ≡ None) × (each (pair_unknown (path_names tree)) (entries_at Incompatible tree) ≡ None) × (each (train_unknown tree) (entries_at Trains tree) ≡ None)
  unfolding unknown
  unknown_parts =
      let a = both _ _ c.unknown in
      let b = both _ _ a.1 in
      let d = both _ _ b.1 in
      (a.0, b.0, d.0)

  count_parts : (list_count Directions 1 64 tree ≡ None) × (list_count Platforms 1 64 tree ≡ None) × (list_count Paths 0 500 tree ≡ None)
      × (list_count Incompatible 0 250_000 tree ≡ None) × (list_count Trains 0 200 tree ≡ None) × (each train_count (entries_at Trains tree) ≡ None)
  unfolding count
  count_parts =
      let a = both _ _ c.count in
      let b = both _ _ a.1 in
      let d = both _ _ b.1 in
      let f = both _ _ d.1 in
      let g = both _ _ f.1 in
      let h = both _ _ g.1 in
      (a.0, b.0, d.0, f.0, g.0, h.0)

  platforms_pass : Each PlatformPasses (entries_at Platforms tree)
  platforms_pass i d is =
      let r = each-none platform_range (entries_at Platforms tree) range_parts.3 i d is in
      let a = both _ _ r in
      let b = both _ _ a.1 in
      let f = both _ _ b.1 in
      record {
        name = holds _ _ (each-none (entry_name Platforms) (entries_at Platforms tree) name_parts.1 i d is);
        price = holds _ _ a.0;
        headway = holds _ _ b.0;
        buffer = holds _ _ f.0;
      }

  paths_pass : Each (PathPasses tree) (entries_at Paths tree)
  paths_pass i d is =
      let r = both _ _ (each-none path_range (entries_at Paths tree) range_parts.4 i d is) in
      let s = both _ _ r.1 in
      let a = both _ _ (each-none (path_unknown tree) (entries_at Paths tree) unknown_parts.0 i d is) in
      let b = both _ _ a.1 in
      record {
        name = holds _ _ (each-none (entry_name Paths) (entries_at Paths tree) name_parts.2 i d is);
        direction = holds _ _ a.0;
        platform = holds _ _ b.0;
        minutes = holds _ _ r.0;
        price = holds _ _ s.0;
      }

  pairs_pass : Each (PairPasses tree) (entries_at Incompatible tree)
  pairs_pass i d is = record {
    known = λ j p at_j. holds _ _ (each-none (part_unknown (path_names tree) i) (entries d) (each-none (pair_unknown (path_names tree)) (entries_at Incompatible tree) unknown_parts.1 i d is) j p at_j);
  }

  known_end : (i : ℕ) (m : Member) (o : Option (List ℕ)) → end_unknown tree i m o ≡ None → (s : List ℕ) → o ≡ Some s → occurs s (direction_names tree) ≡ true
  known_end i m None clear s is = absurd (cc)
  known_end i m (Some n) clear s is = let same : n ≡ s = cc in rw (← same) (holds _ _ clear)

  trains_pass : Each (TrainPasses tree) (entries_at Trains tree)
  trains_pass i d is =
      let r = both _ _ (each-none train_range (entries_at Trains tree) range_parts.5 i d is) in
      let later = both _ _ r.1 in
      let last = both _ _ later.1 in
      let charged = both _ _ last.1 in
      let t = both _ _ r.0 in
      let t2 = both _ _ t.1 in
      let t3 = both _ _ t2.1 in
      let s = both _ _ later.0 in
      let s2 = both _ _ s.1 in
      let s3 = both _ _ s2.1 in
      let s4 = both _ _ s3.1 in
      let p = both _ _ last.0 in
      let p2 = both _ _ p.1 in
      let u = both _ _ (each-none (train_unknown tree) (entries_at Trains tree) unknown_parts.2 i d is) in
      let u2 = both _ _ u.1 in
      record {
        name = holds _ _ (each-none (entry_name Trains) (entries_at Trains tree) name_parts.3 i d is);
        «from» = known_end i From (text_if From d) u.0;
        to = known_end i To (text_if To d) u2.0;
        arrive = holds _ _ t.0;
        depart = holds _ _ t2.0;
        dwell = holds _ _ t3.0;
        arrive_early = holds _ _ s.0;
        arrive_late = holds _ _ s2.0;
        depart_early = holds _ _ s3.0;
        depart_late = holds _ _ s4.0;
        off_price = holds _ _ p.0;
        shift_price = holds _ _ p2.0;
        charges = λ j q at_j. holds _ _ (each-none (charge_range i) (entries_at Surcharges d) charged.0 j q at_j);
      }

  directions_pass : Each (λ d. IsTrue (is_name (text d))) (entries_at Directions tree)
  directions_pass i d is = holds _ _ (each-none direction_name (entries_at Directions tree) name_parts.0 i d is)

  second : (a b : Bool) → (a && b) ≡ true → b ≡ true
  second true b both_hold = both_hold
  second false b both_hold = absurd (true≢false (sym both_hold))

  at_most : (low high n : ℕ) → (nat_le low n && nat_le n high) ≡ true → n ≤ high
  at_most low high n within = leb-true n high (second _ _ within)

  length-map : {X Y : Type 0} (f : X → Y) (xs : List X) → length (map f xs) ≡ length xs
  length-map f [] = refl
  length-map f (x ∷ xs) = ap suc (length-map f xs)

  few : AreFew tree
  few = record {
    directions = rw (length-map text (entries_at Directions tree)) (at_most _ _ _ (holds _ _ count_parts.0));
    platforms = rw (length-map (text_at Name) (entries_at Platforms tree)) (at_most _ _ _ (holds _ _ count_parts.1));
    paths = rw (length-map (text_at Name) (entries_at Paths tree)) (at_most _ _ _ (holds _ _ count_parts.2));
    trains = at_most _ _ _ (holds _ _ count_parts.4);
  }

  first_of : (a b : Bool) → (a && b) ≡ true → a ≡ true
  first_of true b both_hold = refl
  first_of false b both_hold = absurd (true≢false (sym both_hold))

  at_least : (low high n : ℕ) → (nat_le low n && nat_le n high) ≡ true → low ≤ n
  at_least low high n within = leb-true low n (first_of _ _ within)

  -- there is a direction and a platform
  pub some_declared : (1 ≤ length (entries_at Directions tree)) × (1 ≤ length (entries_at Platforms tree))
  some_declared = (at_least 1 64 _ (holds _ _ count_parts.0), at_least 1 64 _ (holds _ _ count_parts.1))

  pub passes : TreePasses tree
  passes = record {
    few = few;
    threshold = holds _ _ range_parts.0;
    conflict_price = holds _ _ range_parts.1;
    buffer_price = holds _ _ range_parts.2;
    directions = directions_pass;
    platforms = platforms_pass;
    paths = paths_pass;
    pairs = pairs_pass;
    trains = trains_pass;
  }
