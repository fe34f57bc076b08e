-- The tree of a station is read as the station.
use Rattle.std.proofs.Common.{◌≡◌, ℕ, ◌<◌, List, [], map, length, Option, Some, None, option_map, slice_index_or, refl, sym, ap, ◌∙◌, arith}
use Rattle.std.specs.Prelude.{filter}
use Rattle.std.specs.List.{list_any}
use Rattle.serde_json.specs.Data.{Data}
use Rattle.serde_json.specs.Find.{as_str}
use Rattle.station_reader.specs.declared.member.Member.TheVariants.{Threshold, ConflictPrice, BufferPrice, Platforms, Paths, Incompatible, Trains, Prefer, Surcharges, From, To, Arrive, Depart}
use Rattle.station.specs.declared.part.Platform.{Platform}
use Rattle.station.specs.declared.part.Path.{Path}
use Rattle.station.specs.declared.part.PathPair.{PathPair}
use Rattle.station.specs.declared.part.PathWay.{PathWay}
use Rattle.station.specs.declared.part.PathWay.TheVariants.{In, Out}
use Rattle.station.specs.declared.part.Surcharge.{Surcharge}
use Rattle.station.specs.declared.part.Train.{Train}
use Rattle.station_reader.specs.Tree.{entries_at, texts, text_if, integer_at, natural, natural_at}
use Rattle.station_reader.specs.Classes.{direction_names, platform_names, path_names, charged_name, charged_price}
use Rattle.station.specs.Allowed.{StationRecord}
use Rattle.station.specs.Station.{IsPath, IsPair, ArePlatforms, IsTrain, IsStation, charged}
use Rattle.station_reader.specs.Reading.{number_of, way_of, platform_record, path_record, listed_pair, same_pair, pairs_below, incompatible_pairs, numbers_from, surcharges_from, train_record, station_record}
use Rattle.station.proofs.Lists.{length-made}
use Rattle.station_gen.specs.declared.version.Version.{Version}
use Rattle.station_gen.specs.declared.version.Version.TheVariants.{One, Two}
use Rattle.station_gen.specs.Json.{named_json, named_if_json, platform_names as platform_names_of, path_names as path_names_of, way_text, platform_json, path_json, pair_json, charge_json, train_json, station_json}
use Rattle.station_gen.proofs.Listed.{map-map, map-same}
use Rattle.station_gen.proofs.Found.{integer-found, at-Threshold, at-ConflictPrice, at-BufferPrice, no-BufferPrice, entries-Platforms, entries-Paths, entries-Incompatible, entries-Trains, direction-names, platform-names, path-names, entries-train-Platforms, entries-train-Prefer, entries-train-Surcharges}
use Rattle.station_gen.proofs.Said.{NumberSaid, IsSaid}
use Rattle.station_gen.proofs.NamesClear.{texts-named}
use Rattle.station_gen.proofs.RangeClear.{minute-is}
use Rattle.station_gen.proofs.Numbers.{number-back, numbers-back}
use Rattle.station_gen.proofs.ChargesBack.{charges-back}
use Rattle.station_gen.proofs.PairsBack.{pairs-back}

platform_back : (v : Version) (p : Platform) → NumberSaid v p.buffer → platform_record (platform_json v p) ≡ p
unfolding platform_record platform_json
platform_back One p none = λ i. record { name = p.name; dummy = p.dummy; price = p.price; headway = p.headway; buffer = sym none i }
platform_back Two p none = refl

way_back : (w : PathWay) → way_of (way_text w) ≡ w
way_back In = refl
way_back Out = refl

charge_name : (r : StationRecord) (s : Surcharge) → charged_name (charge_json r s) ≡ slice_index_or (platform_names_of r) s.platform []
unfolding charge_json
charge_name r s = refl

charge_price : (r : StationRecord) (s : Surcharge) → natural (charged_price (charge_json r s)) ≡ s.price
unfolding charge_json
charge_price r s = refl

buffer_price_read : (v : Version) (r : StationRecord) → NumberSaid v r.buffer_price → natural_at BufferPrice (station_json v r) ≡ r.buffer_price
buffer_price_read One r none = ap natural (no-BufferPrice r) ∙ sym none
buffer_price_read Two r none = ap natural (integer-found BufferPrice (station_json Two r) r.buffer_price (at-BufferPrice r))

module _ (v : Version) (r : StationRecord) (k : IsStation r) (said : IsSaid v r) where
  abbrev tree : Data
  tree = station_json v r

  platforms_there : length (platform_names_of r) ≡ length r.platforms
  platforms_there = length-made (λ (p : Platform). p.name) r.platforms

  paths_there : length (path_names_of r) ≡ length r.paths
  paths_there = length-made (λ (p : Path). p.name) r.paths

  direction_back : (d : ℕ) → d < length r.directions → number_of (direction_names tree) (slice_index_or r.directions d []) ≡ d
  direction_back d h = ap (λ ns. number_of ns (slice_index_or r.directions d [])) (direction-names v r) ∙ number-back r.directions k.directions_differ d h

  platform_number : (p : ℕ) → p < length r.platforms → number_of (platform_names tree) (slice_index_or (platform_names_of r) p []) ≡ p
  platform_number p h =
      ap (λ ns. number_of ns (slice_index_or (platform_names_of r) p [])) (platform-names v r) ∙ number-back (platform_names_of r) k.platforms_differ p (omega (arith, platforms_there))

  path_number : (p : ℕ) → p < length r.paths → number_of (path_names tree) (slice_index_or (path_names_of r) p []) ≡ p
  path_number p h = ap (λ ns. number_of ns (slice_index_or (path_names_of r) p [])) (path-names v r) ∙ number-back (path_names_of r) k.paths_differ p (omega (arith, paths_there))

  path_back : (p : Path) → IsPath r p → path_record tree (path_json r p) ≡ p
  unfolding path_record path_json
  path_back p kept =
      let direction : number_of (direction_names tree) (slice_index_or r.directions p.direction []) ≡ p.direction = direction_back p.direction kept.direction in
      let platform : number_of (platform_names tree) (slice_index_or (platform_names_of r) p.platform []) ≡ p.platform = platform_number p.platform kept.platform in
      let way : way_of (way_text p.way) ≡ p.way = way_back p.way in
      λ i. record { name = p.name; direction = direction i; platform = platform i; way = way i; minutes = p.minutes; price = p.price }

  pair_back : (x : PathPair) → IsPair r x → listed_pair (path_names tree) (pair_json r x) ≡ x
  unfolding pair_json
  pair_back x kept =
      let first : number_of (path_names tree) (slice_index_or (path_names_of r) x.first []) ≡ x.first = path_number x.first (omega (arith, kept.order, kept.there)) in
      let second : number_of (path_names tree) (slice_index_or (path_names_of r) x.second []) ≡ x.second = path_number x.second kept.there in
      λ i. record { first = first i; second = second i }

  listed : map (listed_pair (path_names tree)) (entries_at Incompatible tree) ≡ r.incompatible
  listed =
      ap (map (listed_pair (path_names tree))) (entries-Incompatible v r) ∙ map-map (listed_pair (path_names tree)) (pair_json r) r.incompatible
      ∙ map-same (λ x. listed_pair (path_names tree) (pair_json r x)) r.incompatible (λ i x is. pair_back x (k.pair i x is))

  paths_count : length (path_names tree) ≡ length r.paths
  paths_count = ap length (path-names v r) ∙ paths_there

  pairs_read : incompatible_pairs tree ≡ r.incompatible
  unfolding incompatible_pairs
  pairs_read =
      ap (λ (xs : List PathPair). filter (λ x. list_any (same_pair x) xs) (pairs_below (length (path_names tree)))) listed
      ∙ ap (λ n. filter (λ x. list_any (same_pair x) r.incompatible) (pairs_below n)) paths_count
      ∙ pairs-back (length r.paths) r.incompatible k.paths_most (λ i x is. let kept = k.pair i x is in (kept.order, kept.there)) k.pairs_ascending

  -- ---- trains

  end_back : (o : Option ℕ) → ((d : ℕ) → o ≡ Some d → d < length r.directions) → option_map (number_of (direction_names tree)) (as_str (named_if_json r.directions o)) ≡ o
  end_back None there = refl
  end_back (Some d) there = ap Some (direction_back d (there d refl))

  numbers_read : (ps : List ℕ) → ArePlatforms r ps → numbers_from 0 (platform_names tree) (texts (map (named_json (platform_names_of r)) ps)) ≡ ps
  numbers_read ps kept =
      ap (λ ns. numbers_from 0 ns (texts (map (named_json (platform_names_of r)) ps))) (platform-names v r)
      ∙ ap (numbers_from 0 (platform_names_of r)) (texts-named (platform_names_of r) ps)
      ∙ numbers-back (platform_names_of r) k.platforms_differ ps (λ i p is. omega (arith, kept.there i p is, platforms_there)) kept.ascending

  charges_read : (ss : List Surcharge) → ArePlatforms r (charged ss) → surcharges_from 0 (platform_names tree) (map (charge_json r) ss) ≡ ss
  charges_read ss kept =
      ap (λ ns. surcharges_from 0 ns (map (charge_json r) ss)) (platform-names v r)
      ∙ charges-back (platform_names_of r) k.platforms_differ (charge_json r) (charge_name r) (charge_price r) ss (λ i p is. omega (arith, kept.there i p is, platforms_there)) kept.ascending

  module _ (t : Train) (kept : IsTrain r t) where
    comes : option_map (number_of (direction_names tree)) (text_if From (train_json r t)) ≡ t.from
    unfolding train_json
    comes = end_back t.from kept.from

    goes : option_map (number_of (direction_names tree)) (text_if To (train_json r t)) ≡ t.to
    unfolding train_json
    goes = end_back t.to kept.to

    arrives : integer_at Arrive (train_json r t) ≡ t.arrive
    unfolding train_json
    arrives = minute-is t.arrive

    departs : integer_at Depart (train_json r t) ≡ t.depart
    unfolding train_json
    departs = minute-is t.depart

    platforms : numbers_from 0 (platform_names tree) (texts (entries_at Platforms (train_json r t))) ≡ t.platforms
    platforms = ap (λ ds. numbers_from 0 (platform_names tree) (texts ds)) (entries-train-Platforms r t) ∙ numbers_read t.platforms kept.platforms

    prefer : numbers_from 0 (platform_names tree) (texts (entries_at Prefer (train_json r t))) ≡ t.prefer
    prefer = ap (λ ds. numbers_from 0 (platform_names tree) (texts ds)) (entries-train-Prefer r t) ∙ numbers_read t.prefer kept.prefer

    surcharges : surcharges_from 0 (platform_names tree) (entries_at Surcharges (train_json r t)) ≡ t.surcharges
    surcharges = ap (surcharges_from 0 (platform_names tree)) (entries-train-Surcharges r t) ∙ charges_read t.surcharges kept.surcharges

    train_back : train_record tree (train_json r t) ≡ t
    unfolding train_record train_json
    train_back = λ i. record {
      name = t.name;
      «from» = comes i;
      to = goes i;
      arrive = arrives i;
      depart = departs i;
      dwell = t.dwell;
      arrive_early = t.arrive_early;
      arrive_late = t.arrive_late;
      depart_early = t.depart_early;
      depart_late = t.depart_late;
      platforms = platforms i;
      prefer = prefer i;
      off_price = t.off_price;
      shift_price = t.shift_price;
      surcharges = surcharges i;
    }

  -- ---- the station

  price_read : natural_at BufferPrice tree ≡ r.buffer_price
  price_read = buffer_price_read v r said.price

  platforms_read : map platform_record (entries_at Platforms tree) ≡ r.platforms
  platforms_read =
      ap (map platform_record) (entries-Platforms v r) ∙ map-map platform_record (platform_json v) r.platforms
      ∙ map-same (λ p. platform_record (platform_json v p)) r.platforms (λ i p is. platform_back v p (said.buffer i p is))

  paths_read : map (path_record tree) (entries_at Paths tree) ≡ r.paths
  paths_read =
      ap (map (path_record tree)) (entries-Paths v r) ∙ map-map (path_record tree) (path_json r) r.paths
      ∙ map-same (λ p. path_record tree (path_json r p)) r.paths (λ i p is. path_back p (k.path i p is))

  trains_read : map (train_record tree) (entries_at Trains tree) ≡ r.trains
  trains_read =
      ap (map (train_record tree)) (entries-Trains v r) ∙ map-map (train_record tree) (train_json r) r.trains
      ∙ map-same (λ t. train_record tree (train_json r t)) r.trains (λ i t is. train_back t (k.train i t is))

  pub recorded : station_record (station_json v r) ≡ r
  unfolding station_record
  recorded =
      let threshold : natural_at Threshold tree ≡ r.threshold = ap natural (integer-found Threshold tree r.threshold (at-Threshold v r)) in
      let conflict : natural_at ConflictPrice tree ≡ r.conflict_price = ap natural (integer-found ConflictPrice tree r.conflict_price (at-ConflictPrice v r)) in
      let directions : direction_names tree ≡ r.directions = direction-names v r in
      λ i. record {
        threshold = threshold i;
        conflict_price = conflict i;
        buffer_price = price_read i;
        directions = directions i;
        platforms = platforms_read i;
        paths = paths_read i;
        incompatible = pairs_read i;
        trains = trains_read i;
      }
