-- A generated station keeps every rule of a station.
use Rattle.std.proofs.Common.{◌≡◌, ℕ, zero, suc, ◌+◌, ◌*◌, ◌<◌, ◌≤◌, List, [], ◌∷◌, ◌++◌, length, map, Bool, true, false, not, ◌&&◌, ◌==◌, nat_lt, Some, slice_get, refl, sym, ap, ◌∙◌, subst, arith, lit≤}
use Rattle.std.specs.Prelude.{codes, decimal}
use Rattle.std.specs.Fmt.{digits}
use Rattle.std.specs.List.{list_all, range_with_len}
use Rattle.std.proofs.lemmas.Fmt.{decimal_injective}
use Rattle.std.proofs.lemmas.Int.{ints}
use Rattle.std.proofs.lemmas.List.FromFn.{length-map-range_with_len, length-range_with_len}
use borrow.Author.Tests.{ltb-true, eqb-true}
use Rattle.station.specs.declared.part.Platform.{Platform}
use Rattle.station.specs.declared.part.Path.{Path}
use Rattle.station.specs.declared.part.PathPair.{PathPair}
use Rattle.station.specs.declared.part.Train.{Train}
use Rattle.station_reader.specs.declared.place.Spot.TheVariants.{Entry, Field}
use Rattle.station_reader.specs.declared.member.Member.TheVariants.{Directions, Platforms, Paths, Name}
use Rattle.station.specs.Named.{is_name, is_name_byte}
use Rattle.station_reader.specs.First.{occurs}
use Rattle.station_reader.specs.Classes.{repeat}
use Rattle.station.specs.Allowed.{StationRecord, numbers, is_dummy, allowed_list}
use Rattle.station_reader.specs.Reading.{pairs_below}
use Rattle.station.specs.Station.{AllDiffer, IsPlatform, IsPath, ArePlatforms, IsTrain, IsBefore, IsStation}
use Rattle.station_reader.proofs.Chosen.{IsPairFrom, rows_within, rows_rising}
use Rattle.station_reader.proofs.Differ.{new-from_again, differ}
use Rattle.station.proofs.Tests.{left, right}
use Rattle.station.proofs.Lists.{Every, Rising, every-at, rising-at, every-filter, rising-filter, mapped}
use Rattle.station_gen.specs.Made.{next, drawn, state_after, made_directions, regular, dummy, made_platforms, made_path, paths_of, made_paths, is_alike_pair, alike_pairs, made_train, made_trains, made_station}
use Rattle.station_gen.proofs.Tested.{passes-at, passes-below, made-numbers}
use Rattle.station_gen.proofs.Names.{name_regular, name_dummy, name_train}
use Rattle.station_gen.proofs.Draws.{drawn_below}
use Rattle.station_gen.proofs.FewPatterns.{times_most, few_patterns}

-- ---- directions

direction_kept : (i : ℕ) (n : List ℕ) → slice_get made_directions i ≡ Some n → is_name n ≡ true
unfolding is_name is_name_byte made_directions
direction_kept i n is = passes-at is_name made_directions i n refl is

directions_differ : AllDiffer made_directions
unfolding made_directions repeat occurs
directions_differ = differ made_directions (new-from_again (Entry Directions) made_directions refl)

four_directions : length made_directions ≡ 4
unfolding made_directions
four_directions = refl

-- ---- platforms

regular_kept : (p : ℕ) → p < 5 → IsPlatform (regular p)
unfolding regular
regular_kept p h = record { name = name_regular p h; price = lit≤ tt; headway = lit≤ tt; buffer = lit≤ tt }

dummy_kept : IsPlatform dummy
unfolding dummy
dummy_kept = record { name = name_dummy; price = lit≤ tt; headway = lit≤ tt; buffer = lit≤ tt }

platforms_kept : Every IsPlatform made_platforms
unfolding made_platforms
platforms_kept = (
  regular_kept 0 (omega arith),
  (regular_kept 1 (omega arith), (regular_kept 2 (omega arith), (regular_kept 3 (omega arith), (regular_kept 4 (omega arith), (dummy_kept, tt))))),
)

platforms_differ : AllDiffer (map (λ p. p.name) made_platforms)
unfolding made_platforms regular dummy digits repeat occurs
platforms_differ = differ (map (λ p. p.name) made_platforms) (new-from_again (λ i. Field Platforms i Name) (map (λ p. p.name) made_platforms) refl)

six_platforms : length made_platforms ≡ 6
unfolding made_platforms
six_platforms = refl

regular-made : list_all (λ p. not (is_dummy (slice_get made_platforms p))) (numbers 5) ≡ true
unfolding made_platforms regular
regular-made = refl

not_dummy : (b : Bool) → not b ≡ true → b ≡ false
not_dummy true e = absurd (cc)
not_dummy false e = refl

regular_there : (p : ℕ) (q : Platform) → p < 5 → slice_get made_platforms p ≡ Some q → q.dummy ≡ false
regular_there p q h is =
    not_dummy q.dummy (subst (λ o. not (is_dummy o) ≡ true) is (passes-below (λ k. not (is_dummy (slice_get made_platforms k))) 5 p regular-made h))

-- ---- paths

abbrev path_test : Path → Bool
path_test x = is_name x.name && ((nat_lt x.direction 4 && nat_lt x.platform 5) && (x.minutes == 2 && x.price == 0))

paths-made : list_all path_test made_paths ≡ true
unfolding is_name is_name_byte made_directions digits made_paths paths_of made_path
paths-made = refl

paths_differ : AllDiffer (map (λ p. p.name) made_paths)
unfolding made_directions digits made_paths paths_of made_path repeat occurs
paths_differ = differ (map (λ p. p.name) made_paths) (new-from_again (λ i. Field Paths i Name) (map (λ p. p.name) made_paths) refl)

forty_paths : length made_paths ≡ 40
unfolding made_paths paths_of
forty_paths = refl

path_kept : (r : StationRecord) → r.directions ≡ made_directions → r.platforms ≡ made_platforms → (x : Path) → path_test x ≡ true → IsPath r x
path_kept r directions platforms x passes =
    let rest = right (is_name x.name) _ passes in
    let ends = left (nat_lt x.direction 4 && nat_lt x.platform 5) (x.minutes == 2 && x.price == 0) rest in
    let costs = right (nat_lt x.direction 4 && nat_lt x.platform 5) (x.minutes == 2 && x.price == 0) rest in
    let direction : x.direction < 4 = ltb-true x.direction 4 (left _ _ ends) in
    let platform : x.platform < 5 = ltb-true x.platform 5 (right (nat_lt x.direction 4) _ ends) in
    let minutes : x.minutes ≡ 2 = eqb-true x.minutes 2 (left _ _ costs) in
    let price : x.price ≡ 0 = eqb-true x.price 0 (right (x.minutes == 2) _ costs) in
    record {
      name = left (is_name x.name) _ passes;
      direction = omega (arith, four_directions, ap length directions);
      platform = omega (arith, six_platforms, ap length platforms);
      regular = λ q is. regular_there x.platform q platform (ap (λ ps. slice_get ps x.platform) (sym platforms) ∙ is);
      minutes_least = omega arith;
      minutes_most = omega arith;
      price = omega arith;
    }

-- ---- pairs

pairs_within : (paths : List Path) → Every (IsPairFrom 0 (length paths)) (alike_pairs paths)
unfolding alike_pairs
pairs_within paths = every-filter (IsPairFrom 0 (length paths)) (is_alike_pair paths) (pairs_below (length paths)) (rows_within (length paths) 0 (length paths) (omega arith))

pairs_rising : (paths : List Path) → length paths ≤ 500 → Rising IsBefore (alike_pairs paths)
unfolding alike_pairs
pairs_rising paths few = rising-filter IsBefore (is_alike_pair paths) (pairs_below (length paths)) (rows_rising (length paths) 0 (length paths) (omega arith) few)

eighty_pairs : length (alike_pairs made_paths) ≡ 80
unfolding alike_pairs made_paths paths_of made_path
eighty_pairs = refl

-- ---- trains

number-at : (a n i p : ℕ) → slice_get (range_with_len a n) i ≡ Some p → (i < n) × (a + i ≡ p)
number-at a zero i p is = absurd (cc)
number-at a (suc n) zero p is = let same : a ≡ p = cc in (omega arith, omega arith)
number-at a (suc n) (suc i) p is = let rest = number-at (a + 1) n i p is in (omega (arith, rest.0), omega (arith, rest.1))

all_numbers : (r : StationRecord) (n : ℕ) → n ≤ length r.platforms → n ≤ 64 → ArePlatforms r (numbers n)
all_numbers r n there few = record {
  count = omega (arith, length-range_with_len 0 n);
  there = λ i p is. omega (arith, (number-at 0 n i p is).0, (number-at 0 n i p is).1);
  ascending = λ i j p q h is js. omega (arith, (number-at 0 n i p is).1, (number-at 0 n j q js).1);
}

past_one : (q i p : ℕ) → slice_get (q ∷ []) (suc i) ≡ Some p → ⊥
past_one q i p is = cc

lone_there : (q n i p : ℕ) → q < n → slice_get (q ∷ []) i ≡ Some p → p < n
lone_there q n zero p h is = let same : q ≡ p = cc in omega arith
lone_there q n (suc i) p h is = absurd (past_one q i p is)

lone_rises : (a i j p q : ℕ) → i < j → slice_get (a ∷ []) i ≡ Some p → slice_get (a ∷ []) j ≡ Some q → p < q
lone_rises a i zero p q h is js = absurd (omega arith)
lone_rises a i (suc j) p q h is js = absurd (past_one a j q js)

lone_number : (r : StationRecord) (q : ℕ) → q < length r.platforms → ArePlatforms r (q ∷ [])
lone_number r q there = record {
  count = lit≤ tt;
  there = λ i p is. lone_there q (length r.platforms) i p there is;
  ascending = lone_rises q;
}

no_numbers : (r : StationRecord) → ArePlatforms r []
no_numbers r = record { count = lit≤ tt; there = λ i p is. absurd (cc); ascending = λ i j p q h is js. absurd (cc) }

train_kept : (r : StationRecord) (state k : ℕ) → k < 200 → length r.directions ≡ 4 → length r.platforms ≡ 6 → IsTrain r (made_train state k)
unfolding made_train
train_kept r state k few directions platforms =
    let first = next state in
    let second = next first in
    let third = next second in
    let fourth = next third in
    let fifth = next fourth in
    let at : drawn third 5 < 5 = drawn_below third 5 (omega arith) in
    let later : drawn fourth 8 < 8 = drawn_below fourth 8 (omega arith) in
    record {
      name = name_train k few;
      «from» = λ d is. let same : drawn first 4 ≡ d = cc in omega (arith, drawn_below first 4 (omega arith));
      to = λ d is. let same : drawn second 4 ≡ d = cc in omega (arith, drawn_below second 4 (omega arith));
      arrive_least = omega (arith, ints);
      arrive_most = omega (arith, ints);
      depart_least = omega (arith, ints);
      depart_most = omega (arith, ints);
      dwell_least = lit≤ tt;
      dwell_most = lit≤ tt;
      arrive_early = lit≤ tt;
      arrive_late = lit≤ tt;
      depart_early = lit≤ tt;
      depart_late = lit≤ tt;
      platforms = all_numbers r 6 (omega arith) (lit≤ tt);
      prefer = lone_number r (drawn fifth 5) (omega (arith, drawn_below fifth 5 (omega arith)));
      off_price = lit≤ tt;
      shift_price = lit≤ tt;
      surcharges = no_numbers r;
      surcharge = λ i s is. absurd (cc);
    }

train_patterns : (r : StationRecord) (state k : ℕ) → r.paths ≡ made_paths → r.platforms ≡ made_platforms → length (allowed_list r (made_train state k)) ≤ 4096
unfolding made_train
train_patterns r state k paths platforms =
    few_patterns (made_train state k) (drawn (next state) 4) (drawn (next (next state)) 4) refl refl (drawn_below (next state) 4 (omega arith)) (drawn_below (next (next state)) 4 (omega arith))
    (times_most (made_train state k) refl refl refl refl) r paths platforms

train_name : (state k : ℕ) → (made_train state k).name ≡ codes "T" ++ decimal k
unfolding made_train
train_name state k = refl

same_digits : (xs ys : List ℕ) → codes "T" ++ xs ≡ codes "T" ++ ys → xs ≡ ys
same_digits xs ys e = cc

trains_differ : (number n : ℕ) → n ≤ 200 → AllDiffer (map (λ t. t.name) (made_trains number n))
unfolding made_trains
trains_differ number n few i j name is js =
    let f : ℕ → Train = λ k. made_train (state_after number (5 * k)) k in
    let x = mapped (λ (t : Train). t.name) (map f (numbers n)) i name is in
    let y = mapped (λ (t : Train). t.name) (map f (numbers n)) j name js in
    let at_x = made-numbers f n i x.0 x.1 in
    let at_y = made-numbers f n j y.0 y.1 in
    let first : codes "T" ++ decimal i ≡ name = sym (train_name (state_after number (5 * i)) i) ∙ ap (λ (t : Train). t.name) at_x.1 ∙ x.2 in
    let second : codes "T" ++ decimal j ≡ name = sym (train_name (state_after number (5 * j)) j) ∙ ap (λ (t : Train). t.name) at_y.1 ∙ y.2 in
    decimal_injective i j (omega (arith, at_x.0)) (omega (arith, at_y.0)) (same_digits (decimal i) (decimal j) (first ∙ sym second))

trains_few : (number n : ℕ) → length (made_trains number n) ≡ n
unfolding made_trains
trains_few number n = length-map-range_with_len (λ k. made_train (state_after number (5 * k)) k) 0 n

pub train_at : (number n i : ℕ) (t : Train) → slice_get (made_trains number n) i ≡ Some t → (i < n) × (made_train (state_after number (5 * i)) i ≡ t)
unfolding made_trains
train_at number n i t is = made-numbers (λ k. made_train (state_after number (5 * k)) k) n i t is

-- ---- the whole station

pub made_kept : (number n : ℕ) → n ≤ 200 → IsStation (made_station number n)
unfolding made_station
made_kept number n few =
    let r = made_station number n in
    record {
      threshold = lit≤ tt;
      conflict_price = lit≤ tt;
      buffer_price = lit≤ tt;
      directions_least = omega (arith, four_directions);
      directions_most = omega (arith, four_directions);
      platforms_least = omega (arith, six_platforms);
      platforms_most = omega (arith, six_platforms);
      paths_most = omega (arith, forty_paths);
      incompatible_most = omega (arith, eighty_pairs);
      trains_most = omega (arith, trains_few number n);
      direction = direction_kept;
      platform = every-at IsPlatform made_platforms platforms_kept;
      path = λ i x is. path_kept r refl refl x (passes-at path_test made_paths i x paths-made is);
      pair = λ i x is.
          let within = every-at (IsPairFrom 0 (length made_paths)) (alike_pairs made_paths) (pairs_within made_paths) i x is in
          record { order = within.1; there = within.2 };
      pairs_ascending = rising-at IsBefore (alike_pairs made_paths) (pairs_rising made_paths (omega (arith, forty_paths)));
      train = λ i t is.
          let found = train_at number n i t is in
          subst (IsTrain r) found.1 (train_kept r (state_after number (5 * i)) i (omega (arith, found.0)) four_directions six_platforms);
      patterns = λ i t is.
          let found = train_at number n i t is in
          subst (λ x. length (allowed_list r x) ≤ 4096) found.1 (train_patterns r (state_after number (5 * i)) i refl refl);
      directions_differ = directions_differ;
      platforms_differ = platforms_differ;
      paths_differ = paths_differ;
      trains_differ = trains_differ number n few;
    }

pub kept_as : (r s : StationRecord) → r ≡ s → IsStation s → IsStation r
kept_as r s e k = subst IsStation (sym e) k

-- a station of these parts
pub assembled : (number n : ℕ) (directions : List (List ℕ)) (platforms : List Platform) (paths : List Path) (pairs : List PathPair) (trains : List Train)
    → directions ≡ made_directions → platforms ≡ made_platforms → paths ≡ made_paths → pairs ≡ alike_pairs paths → trains ≡ made_trains number n
    → record { threshold = 1; conflict_price = 20; buffer_price = 0; directions = directions; platforms = platforms; paths = paths; incompatible = pairs; trains = trains } ≡ made_station number n
unfolding made_station
assembled number n directions platforms paths pairs trains d p x q t =
    let pairs_are : pairs ≡ alike_pairs made_paths = q ∙ ap alike_pairs x in
    λ i. record { threshold = 1; conflict_price = 20; buffer_price = 0; directions = d i; platforms = p i; paths = x i; incompatible = pairs_are i; trains = t i }
