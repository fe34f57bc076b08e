-- The record of a tree in which no class has a failing place is a station's.
use Rattle.std.proofs.Common.{◌≡◌, ℕ, zero, suc, ◌+◌, ◌*◌, ◌<◌, ◌≤◌, List, [], ◌∷◌, length, map, take, Bool, true, false, not, Option, Some, None, option_map, slice_get, refl, sym, ap, ◌∙◌, subst, arith, true≢false, nat_le, cond, ◌-◌, length-append}
use Rattle.std.proofs.lemmas.List.FromFn.{length-range_with_len}
use Rattle.std.proofs.Math.Nat.{mul-le-mul_left}
use borrow.Author.Tests.{leb-true}
use Rattle.std.specs.Prelude.{filter, flat_map}
use Rattle.std.specs.List.{list_any, range_with_len}
use Rattle.std.proofs.lemmas.Slice.Eq.{bytes_eq-Decides}
use Rattle.serde_json.specs.Data.{Data}
use Rattle.station_reader.specs.declared.form.Edition.{Edition}
use Rattle.station_reader.specs.declared.place.Spot.TheVariants.{Entry, Field}
use Rattle.station_reader.specs.declared.member.Member.TheVariants.{Threshold, ConflictPrice, BufferPrice, Directions, Platforms, Paths, Trains, Name, Dummy, Price, Headway, Buffer, Direction, Platform as PlatformMember, Minutes, From, To, Arrive, Depart, Dwell, ArriveEarly, ArriveLate, DepartEarly, DepartLate, Prefer, OffPrice, ShiftPrice, Surcharges}
use Rattle.station.specs.declared.part.Platform.{Platform}
use Rattle.station.specs.declared.part.PathPair.{PathPair}
use Rattle.station.specs.declared.part.Train.{Train}
use Rattle.station.specs.Named.{is_name}
use Rattle.station_reader.specs.First.{unless, each, occurs}
use Rattle.station_reader.specs.Tree.{entries_at, text, texts, text_at, text_if, integer_at, truth_at}
use Rattle.station.specs.Allowed.{allowed_list}
use Rattle.station.specs.Station.{AllDiffer, IsPlatform, IsPath, IsPair, ArePlatforms, charged, IsTrain, IsBefore, IsStation}
use Rattle.station.specs.Counted.{IsTimed}
use Rattle.station_reader.specs.Classes.{again, double, names, direction_names, platform_names, path_names, train_double, is_regular_named}
use Rattle.station_reader.specs.Passes.{AllNew, IsClear, Each, PlatformPasses, PathPasses, TrainPasses, TreePasses}
use Rattle.station_reader.specs.Reading.{number_of, platform_record, path_record, train_record, numbers_from, surcharges_from, is_listed, pairs_with, pairs_below, incompatible_pairs, station_record, patterns}
use Rattle.station_reader.proofs.Clear.{both, holds, each-none, passes, some_declared}
use Rattle.station.proofs.Tests.{left, right}
use Rattle.station_reader.proofs.Limits.{natural-most, natural-least, integer-least, integer-most}
use Rattle.station.proofs.Lists.{Every, Rising, every-at, rising-at, every-filter, rising-filter, mapped, map-at, length-made, any-found}
use Rattle.station_reader.proofs.Chosen.{Between, numbers_between, numbers_rising, numbers_length, charges_between, charges_rising, charges_length, charges_cheap, IsPairFrom, rows_within, rows_rising}
use Rattle.station_reader.proofs.Numbered.{number_of-declared, number_of-named}
use Rattle.station_reader.proofs.Differ.{new-from_again, differ, new-is, occurs-at}

-- ---- parts of the record

platform_kept : (d : Data) → PlatformPasses d → IsPlatform (platform_record d)
unfolding platform_record
platform_kept d p = record {
  name = p.name;
  price = natural-most Price (integer_at Price d) p.price;
  headway = natural-most Headway (integer_at Headway d) p.headway;
  buffer = natural-most Buffer (integer_at Buffer d) p.buffer;
}

platform_names_made : (ds : List Data) → map (λ p. p.name) (map platform_record ds) ≡ names ds
unfolding platform_record
platform_names_made [] = refl
platform_names_made (d ∷ ds) = ap (λ ns. text_at Name d ∷ ns) (platform_names_made ds)

path_names_made : (tree : Data) (ds : List Data) → map (λ p. p.name) (map (path_record tree) ds) ≡ names ds
unfolding path_record
path_names_made tree [] = refl
path_names_made tree (d ∷ ds) = ap (λ ns. text_at Name d ∷ ns) (path_names_made tree ds)

train_names_made : (tree : Data) (ds : List Data) → map (λ p. p.name) (map (train_record tree) ds) ≡ names ds
unfolding train_record
train_names_made tree [] = refl
train_names_made tree (d ∷ ds) = ap (λ ns. text_at Name d ∷ ns) (train_names_made tree ds)

-- a regular platform's name is among the platforms' names
any_named : (n : List ℕ) (ds : List Data) → list_any (is_regular_named n) ds ≡ true → occurs n (names ds) ≡ true
any_named n ds e =
    let found = any-found (is_regular_named n) ds e in
    let same : n ≡ text_at Name found.1 = (bytes_eq-Decides n (text_at Name found.1)).0 (right _ _ found.3) in
    let at : slice_get (names ds) found.0 ≡ Some n = map-at (text_at Name) ds found.0 found.1 found.2 ∙ ap Some (sym same) in
    occurs-at n (names ds) found.0 at

some_same : (a b : Data) → Some a ≡ Some b → a ≡ b
some_same a b e = cc

not_dummy : (b : Bool) → not b ≡ true → b ≡ false
not_dummy true e = absurd (true≢false (sym e))
not_dummy false e = refl

-- a number of a platform: the platform of that number has the name
regular_there : (ds : List Data) (n : List ℕ) → AllDiffer (names ds) → list_any (is_regular_named n) ds ≡ true
    → (q : Platform) → slice_get (map platform_record ds) (number_of (names ds) n) ≡ Some q → q.dummy ≡ false
unfolding platform_record
regular_there ds n apart e q is =
    let found = any-found (is_regular_named n) ds e in
    let same : n ≡ text_at Name found.1 = (bytes_eq-Decides n (text_at Name found.1)).0 (right _ _ found.3) in
    let at : slice_get (names ds) found.0 ≡ Some n = map-at (text_at Name) ds found.0 found.1 found.2 ∙ ap Some (sym same) in
    let named : slice_get (names ds) (number_of (names ds) n) ≡ Some n = number_of-named (names ds) n (any_named n ds e) in
    let here : number_of (names ds) n ≡ found.0 = apart _ _ n named at in
    let made = mapped platform_record ds (number_of (names ds) n) q is in
    let there : slice_get ds found.0 ≡ Some made.0 = subst (λ k. slice_get ds k ≡ Some made.0) here made.1 in
    let one : made.0 ≡ found.1 = some_same _ _ (sym there ∙ found.2) in
    sym (ap (λ (p : Platform). p.dummy) made.2) ∙ ap (truth_at Dummy) one ∙ not_dummy _ (left _ _ found.3)

kept_most : {X : Type 0} (b : Bool) (x : X) (xs : List X) (n : ℕ) → length xs ≤ n → length (cond b (x ∷ xs) xs) ≤ suc n
kept_most true x xs n h = omega arith
kept_most false x xs n h = omega arith

one_row_more : (row rows n k : ℕ) → row ≤ n → rows ≤ k * n → (all : ℕ) → all ≡ row + rows → all ≤ suc k * n
one_row_more row rows n k h g all e = grind arith

filter_most : {X : Type 0} (test : X → Bool) (xs : List X) → length (filter test xs) ≤ length xs
filter_most test [] = omega arith
filter_most test (x ∷ xs) = kept_most (test x) x (filter test xs) (length xs) (filter_most test xs)

row_most : (n i : ℕ) → length (pairs_with n i) ≤ n
row_most n i = omega (arith, length-made (λ (j : ℕ). let x : PathPair = record { first = i; second = j } in x) (range_with_len (i + 1) (n - (i + 1))), length-range_with_len (i + 1) (n - (i + 1)))

rows_most : (n i k : ℕ) → length (flat_map (pairs_with n) (range_with_len i k)) ≤ k * n
rows_most n i zero = omega arith
rows_most n i (suc k) = one_row_more (length (pairs_with n i)) _ n k (row_most n i) (rows_most n (i + 1) k) _ (length-append (pairs_with n i) (flat_map (pairs_with n) (range_with_len (i + 1) k)))

pairs_most : (test : PathPair → Bool) (n : ℕ) → n ≤ 500 → length (filter test (pairs_below n)) ≤ 250_000
pairs_most test n few =
    let square : n * n ≤ n * 500 = mul-le-mul_left n few in
    omega (arith, filter_most test (pairs_below n), rows_most n 0 n, square)

-- ---- names that differ

double_parts : (tree : Data) → double tree ≡ None → (again (Entry Directions) (texts (entries_at Directions tree)) ≡ None)
    × (again (λ i. Field Platforms i Name) (names (entries_at Platforms tree)) ≡ None)
    × (again (λ i. Field Paths i Name) (names (entries_at Paths tree)) ≡ None)
    × (each (train_double (names (entries_at Trains tree))) (entries_at Trains tree) ≡ None)
unfolding double
double_parts tree none =
    let a = both _ _ none in
    let b = both _ _ a.1 in
    let d = both _ _ b.1 in
    let f = both _ _ d.1 in
    (a.0, b.0, d.0, f.0)

pub paths_new : (tree : Data) → double tree ≡ None → AllNew (path_names tree)
paths_new tree none = new-from_again (λ i. Field Paths i Name) (path_names tree) (double_parts tree none).2

-- ---- the whole record

module _ (e : Edition) (tree : Data) (c : IsClear e tree) where
  abbrev known : TreePasses tree
  known = passes e tree c

  directions_apart : AllDiffer (direction_names tree)
  directions_apart = differ (direction_names tree) (new-from_again (Entry Directions) (direction_names tree) (double_parts tree c.double).0)

  platforms_apart : AllDiffer (platform_names tree)
  platforms_apart = differ (platform_names tree) (new-from_again (λ i. Field Platforms i Name) (platform_names tree) (double_parts tree c.double).1)

  paths_apart : AllDiffer (path_names tree)
  paths_apart = differ (path_names tree) (paths_new tree c.double)

  trains_new : AllNew (names (entries_at Trains tree))
  trains_new i n is =
      let found = mapped (text_at Name) (entries_at Trains tree) i n is in
      let clear = both _ _ (each-none (train_double (names (entries_at Trains tree))) (entries_at Trains tree) (double_parts tree c.double).3 i found.0 found.1) in
      subst (λ m. occurs m (take i (names (entries_at Trains tree))) ≡ false) found.2 (new-is _ _ clear.0)

  trains_apart : AllDiffer (names (entries_at Trains tree))
  trains_apart = differ (names (entries_at Trains tree)) trains_new

  path_kept : (d : Data) → PathPasses tree d → IsPath (station_record tree) (path_record tree d)
  unfolding station_record path_record
  path_kept d p = record {
    name = p.name;
    direction = number_of-declared (direction_names tree) (text_at Direction d) p.direction;
    platform = subst (λ n. number_of (platform_names tree) (text_at PlatformMember d) < n)
        (length-made (text_at Name) (entries_at Platforms tree) ∙ sym (length-made platform_record (entries_at Platforms tree)))
        (number_of-declared (platform_names tree) (text_at PlatformMember d) (any_named (text_at PlatformMember d) (entries_at Platforms tree) p.platform));
    regular = λ q is. regular_there (entries_at Platforms tree) (text_at PlatformMember d) platforms_apart p.platform q is;
    minutes_least = natural-least Minutes (integer_at Minutes d) p.minutes;
    minutes_most = natural-most Minutes (integer_at Minutes d) p.minutes;
    price = natural-most Price (integer_at Price d) p.price;
  }

  platform_count : length (platform_names tree) ≡ length (map platform_record (entries_at Platforms tree))
  platform_count = length-made (text_at Name) (entries_at Platforms tree) ∙ sym (length-made platform_record (entries_at Platforms tree))

  numbers_kept : (used : List (List ℕ)) → ArePlatforms (station_record tree) (numbers_from 0 (platform_names tree) used)
  unfolding station_record
  numbers_kept used = record {
    count = omega (arith, numbers_length 0 (platform_names tree) used, known.few.platforms);
    there = λ i p is. omega (arith, (every-at (Between 0 (0 + length (platform_names tree))) (numbers_from 0 (platform_names tree) used) (numbers_between 0 (platform_names tree) used) i p is).1, platform_count);
    ascending = rising-at (λ p q. p < q) (numbers_from 0 (platform_names tree) used) (numbers_rising 0 (platform_names tree) used);
  }

  charges_kept : (ds : List Data) → ArePlatforms (station_record tree) (charged (surcharges_from 0 (platform_names tree) ds))
  unfolding station_record
  charges_kept ds = record {
    count = omega (arith, charges_length 0 (platform_names tree) ds, known.few.platforms);
    there = λ i p is. omega (arith, (every-at (Between 0 (length (platform_names tree))) (charged (surcharges_from 0 (platform_names tree) ds)) (charges_between 0 (length (platform_names tree)) (platform_names tree) ds (omega arith)) i p is).1, platform_count);
    ascending = rising-at (λ p q. p < q) (charged (surcharges_from 0 (platform_names tree) ds)) (charges_rising 0 (length (platform_names tree)) (platform_names tree) ds (omega arith));
  }

  end_kept : (o : Option (List ℕ)) → ((s : List ℕ) → o ≡ Some s → occurs s (direction_names tree) ≡ true)
      → (d : ℕ) → option_map (number_of (direction_names tree)) o ≡ Some d → d < length (direction_names tree)
  end_kept None all d is = absurd (cc)
  end_kept (Some s) all d is =
      let same : number_of (direction_names tree) s ≡ d = cc in
      subst (λ k. k < length (direction_names tree)) same (number_of-declared (direction_names tree) s (all s refl))

  train_kept : (d : Data) → TrainPasses tree d → IsTrain (station_record tree) (train_record tree d)
  unfolding station_record train_record
  train_kept d p = record {
    name = p.name;
    «from» = end_kept (text_if From d) p.from;
    to = end_kept (text_if To d) p.to;
    arrive_least = integer-least Arrive (integer_at Arrive d) p.arrive;
    arrive_most = integer-most Arrive (integer_at Arrive d) p.arrive;
    depart_least = integer-least Depart (integer_at Depart d) p.depart;
    depart_most = integer-most Depart (integer_at Depart d) p.depart;
    dwell_least = natural-least Dwell (integer_at Dwell d) p.dwell;
    dwell_most = natural-most Dwell (integer_at Dwell d) p.dwell;
    arrive_early = natural-most ArriveEarly (integer_at ArriveEarly d) p.arrive_early;
    arrive_late = natural-most ArriveLate (integer_at ArriveLate d) p.arrive_late;
    depart_early = natural-most DepartEarly (integer_at DepartEarly d) p.depart_early;
    depart_late = natural-most DepartLate (integer_at DepartLate d) p.depart_late;
    platforms = numbers_kept (texts (entries_at Platforms d));
    prefer = numbers_kept (texts (entries_at Prefer d));
    off_price = natural-most OffPrice (integer_at OffPrice d) p.off_price;
    shift_price = natural-most ShiftPrice (integer_at ShiftPrice d) p.shift_price;
    surcharges = charges_kept (entries_at Surcharges d);
    surcharge = every-at (λ s. s.price ≤ 1_000_000_000) (surcharges_from 0 (platform_names tree) (entries_at Surcharges d)) (charges_cheap 0 (platform_names tree) (entries_at Surcharges d) p.charges);
  }

  abbrev pairs : List PathPair
  pairs = filter (is_listed tree) (pairs_below (length (path_names tree)))

  pairs_within : Every (IsPairFrom 0 (length (path_names tree))) pairs
  pairs_within = every-filter (IsPairFrom 0 (length (path_names tree))) (is_listed tree) (pairs_below (length (path_names tree))) (rows_within (length (path_names tree)) 0 (length (path_names tree)) (omega arith))

  pairs_rising : Rising IsBefore pairs
  pairs_rising = rising-filter IsBefore (is_listed tree) (pairs_below (length (path_names tree))) (rows_rising (length (path_names tree)) 0 (length (path_names tree)) (omega arith) known.few.paths)

  path_count : length (path_names tree) ≡ length (map (path_record tree) (entries_at Paths tree))
  path_count = length-made (text_at Name) (entries_at Paths tree) ∙ sym (length-made (path_record tree) (entries_at Paths tree))

  pair_kept : (i : ℕ) (x : PathPair) → slice_get (station_record tree).incompatible i ≡ Some x → IsPair (station_record tree) x
  unfolding station_record incompatible_pairs
  pair_kept i x is =
      let within = every-at (IsPairFrom 0 (length (path_names tree))) pairs pairs_within i x is in
      record { order = within.1; there = omega (arith, within.2, path_count) }

  pub timed : Each IsTimed (station_record tree).trains
  unfolding station_record
  timed i t is =
      let made = mapped (train_record tree) (entries_at Trains tree) i t is in
      let k = train_kept made.0 (known.trains i made.0 made.1) in
      subst IsTimed made.2 (record {
        arrive_least = k.arrive_least;
        arrive_most = k.arrive_most;
        depart_least = k.depart_least;
        depart_most = k.depart_most;
        dwell_most = k.dwell_most;
        arrive_early = k.arrive_early;
        arrive_late = k.arrive_late;
        depart_early = k.depart_early;
        depart_late = k.depart_late;
      })

  -- every rule of a station but the limit on patterns, and with that one all
  pub kept : patterns (station_record tree) ≡ None → IsStation (station_record tree)
  unfolding station_record incompatible_pairs patterns
  kept few_patterns = record {
    threshold = natural-most Threshold (integer_at Threshold tree) known.threshold;
    conflict_price = natural-most ConflictPrice (integer_at ConflictPrice tree) known.conflict_price;
    buffer_price = natural-most BufferPrice (integer_at BufferPrice tree) known.buffer_price;
    directions_least = omega (arith, (some_declared e tree c).0, length-made text (entries_at Directions tree));
    directions_most = known.few.directions;
    platforms_least = omega (arith, (some_declared e tree c).1, length-made platform_record (entries_at Platforms tree));
    platforms_most = omega (arith, known.few.platforms, platform_count);
    paths_most = omega (arith, known.few.paths, path_count);
    incompatible_most = pairs_most (is_listed tree) (length (path_names tree)) known.few.paths;
    trains_most = omega (arith, known.few.trains, length-made (train_record tree) (entries_at Trains tree));
    direction = λ i n is.
        let made = mapped text (entries_at Directions tree) i n is in
        subst (λ m. is_name m ≡ true) made.2 (known.directions i made.0 made.1);
    platform = λ i p is.
        let made = mapped platform_record (entries_at Platforms tree) i p is in
        subst IsPlatform made.2 (platform_kept made.0 (known.platforms i made.0 made.1));
    path = λ i p is.
        let made = mapped (path_record tree) (entries_at Paths tree) i p is in
        subst (IsPath (station_record tree)) made.2 (path_kept made.0 (known.paths i made.0 made.1));
    pair = pair_kept;
    pairs_ascending = rising-at IsBefore pairs pairs_rising;
    train = λ i t is.
        let made = mapped (train_record tree) (entries_at Trains tree) i t is in
        subst (IsTrain (station_record tree)) made.2 (train_kept made.0 (known.trains i made.0 made.1));
    patterns = λ i t is. leb-true _ _ (holds _ _ (each-none (λ (j : ℕ) (x : Train). unless (nat_le (length (allowed_list (station_record tree) x)) 4096) (Entry Trains j)) (station_record tree).trains few_patterns i t is));
    directions_differ = directions_apart;
    platforms_differ = subst AllDiffer (sym (platform_names_made (entries_at Platforms tree))) platforms_apart;
    paths_differ = subst AllDiffer (sym (path_names_made tree (entries_at Paths tree))) paths_apart;
    trains_differ = subst AllDiffer (sym (train_names_made tree (entries_at Trains tree))) trains_apart;
  }

  pub few_platforms : length (station_record tree).platforms ≤ 64
  unfolding station_record
  few_platforms = omega (arith, known.few.platforms, platform_count)

  pub few_paths : length (station_record tree).paths ≤ 500
  unfolding station_record
  few_paths = omega (arith, known.few.paths, path_count)
