-- The names that the tree of a station uses are declared.
use Rattle.std.proofs.Common.{◌≡◌, ℕ, ◌<◌, List, [], map, length, true, false, not, Option, Some, None, slice_index_or, refl, sym, ap, ◌∙◌, subst, arith, bytes_eq}
use Rattle.std.proofs.lemmas.Slice.Eq.{bytes_eq-Decides}
use Rattle.serde_json.specs.Data.{Data}
use Rattle.serde_json.specs.Find.{as_str}
use Rattle.station_reader.specs.declared.member.Member.{Member}
use Rattle.station_reader.specs.declared.member.Member.TheVariants.{Platforms, Prefer, From, To}
use Rattle.station.specs.declared.part.Platform.{Platform}
use Rattle.station.specs.declared.part.Path.{Path}
use Rattle.station.specs.declared.part.PathPair.{PathPair}
use Rattle.station.specs.declared.part.PathWay.{PathWay}
use Rattle.station.specs.declared.part.PathWay.TheVariants.{In, Out}
use Rattle.station.specs.declared.part.Surcharge.{Surcharge}
use Rattle.station.specs.declared.part.Train.{Train}
use Rattle.station_reader.specs.First.{each, occurs}
use Rattle.std.specs.List.{list_any}
use Rattle.station_reader.specs.Tree.{text_if}
use Rattle.station_reader.specs.Classes.{direction_names, platform_names, path_names, is_regular_named, is_regular, is_way, path_unknown, pair_unknown, end_unknown, item_unknown, charge_unknown, train_unknown, unknown}
use Rattle.station.specs.Allowed.{StationRecord}
use Rattle.station.specs.Station.{IsPath, IsPair, ArePlatforms, IsTrain, IsStation, charged}
use Rattle.station_reader.proofs.Differ.{occurs-at}
use Rattle.station.proofs.Lists.{map-at, length-made}
use Rattle.station_gen.specs.declared.version.Version.{Version}
use Rattle.station_gen.specs.declared.version.Version.TheVariants.{One, Two}
use Rattle.station_gen.specs.Json.{named_json, named_if_json, platform_names as platform_names_of, path_names as path_names_of, way_text, platform_json, path_json, pair_json, charge_json, train_json, station_json}
use Rattle.station_gen.proofs.Listed.{neither, held, clear-made, both_hold, any-at, at-place, index-is, name-at}
use Rattle.station_gen.proofs.Found.{entries-Platforms, entries-Paths, entries-Incompatible, entries-Trains, direction-names, platform-names, path-names, entries-train-Platforms, entries-train-Prefer, entries-train-Surcharges}

-- the name of a number that is there
declared : (names found : List (List ℕ)) (n : ℕ) → found ≡ names → n < length names → occurs (slice_index_or names n []) found ≡ true
declared names found n e h = subst (λ ns. occurs (slice_index_or names n []) ns ≡ true) (sym e) (occurs-at (slice_index_or names n []) names n (name-at names n h))

way_known : (w : PathWay) → is_way (way_text w) ≡ true
way_known In = refl
way_known Out = refl

regular_named : (v : Version) (n : List ℕ) (p : Platform) → p.dummy ≡ false → p.name ≡ n → is_regular_named n (platform_json v p) ≡ true
unfolding platform_json
regular_named One n p e f = both_hold (not p.dummy) (bytes_eq n p.name) (ap not e) ((bytes_eq-Decides n p.name).1 (sym f))
regular_named Two n p e f = both_hold (not p.dummy) (bytes_eq n p.name) (ap not e) ((bytes_eq-Decides n p.name).1 (sym f))

module _ (v : Version) (r : StationRecord) (k : IsStation r) where
  abbrev tree : Data
  tree = station_json v r

  platforms_there : length (platform_names_of r) ≡ length r.platforms
  platforms_there = length-made (λ (p : Platform). p.name) r.platforms

  paths_there : length (path_names_of r) ≡ length r.paths
  paths_there = length-made (λ (p : Path). p.name) r.paths

  platform_declared : (p : ℕ) → p < length r.platforms → occurs (slice_index_or (platform_names_of r) p []) (platform_names tree) ≡ true
  platform_declared p h = declared (platform_names_of r) (platform_names tree) p (platform-names v r) (omega (arith, platforms_there))

  path_declared : (p : ℕ) → p < length r.paths → occurs (slice_index_or (path_names_of r) p []) (path_names tree) ≡ true
  path_declared p h = declared (path_names_of r) (path_names tree) p (path-names v r) (omega (arith, paths_there))

  regular_declared : (x : Path) → IsPath r x → is_regular (slice_index_or (platform_names_of r) x.platform []) tree ≡ true
  regular_declared x kept =
      let q = at-place r.platforms x.platform kept.platform in
      let n = slice_index_or (platform_names_of r) x.platform [] in
      let same : n ≡ q.0.name = index-is (platform_names_of r) x.platform q.0.name (map-at (λ (p : Platform). p.name) r.platforms x.platform q.0 q.1) in
      ap (list_any (is_regular_named n)) (entries-Platforms v r)
      ∙ any-at (is_regular_named n) (map (platform_json v) r.platforms) x.platform (platform_json v q.0) (map-at (platform_json v) r.platforms x.platform q.0 q.1)
      (regular_named v n q.0 (kept.regular q.0 q.1) (sym same))

  path_known : (i : ℕ) (x : Path) → IsPath r x → path_unknown tree i (path_json r x) ≡ None
  unfolding path_json
  path_known i x kept =
      neither _ _ (held _ _ (declared r.directions (direction_names tree) x.direction (direction-names v r) kept.direction))
      (neither _ _ (held _ _ (regular_declared x kept)) (neither _ _ (held _ _ (way_known x.way)) refl))

  pair_known : (i : ℕ) (x : PathPair) → IsPair r x → pair_unknown (path_names tree) i (pair_json r x) ≡ None
  unfolding pair_json
  pair_known i x kept =
      neither _ _ (held _ _ (path_declared x.first (omega (arith, kept.order, kept.there)))) (neither _ _ (held _ _ (path_declared x.second kept.there)) refl)

  end_known : (i : ℕ) (m : Member) (o : Option ℕ) → ((d : ℕ) → o ≡ Some d → d < length r.directions) → end_unknown tree i m (as_str (named_if_json r.directions o)) ≡ None
  end_known i m None there = refl
  end_known i m (Some d) there = held _ _ (declared r.directions (direction_names tree) d (direction-names v r) (there d refl))

  listed_known : (i : ℕ) (m : Member) (ps : List ℕ) → ArePlatforms r ps → each (item_unknown tree i m) (map (named_json (platform_names_of r)) ps) ≡ None
  listed_known i m ps kept = clear-made (item_unknown tree i m) (named_json (platform_names_of r)) ps (λ j p is. held _ _ (platform_declared p (kept.there j p is)))

  charge_known : (i j : ℕ) (s : Surcharge) → s.platform < length r.platforms → charge_unknown tree i j (charge_json r s) ≡ None
  unfolding charge_json
  charge_known i j s there = held _ _ (platform_declared s.platform there)

  charges_known : (i : ℕ) (ss : List Surcharge) → ArePlatforms r (charged ss) → each (charge_unknown tree i) (map (charge_json r) ss) ≡ None
  charges_known i ss kept =
      clear-made (charge_unknown tree i) (charge_json r) ss (λ j s is. charge_known i j s (kept.there j s.platform (map-at (λ (x : Surcharge). x.platform) ss j s is)))

  from_known : (i : ℕ) (t : Train) → IsTrain r t → end_unknown tree i From (text_if From (train_json r t)) ≡ None
  unfolding train_json
  from_known i t kept = end_known i From t.from kept.from

  to_known : (i : ℕ) (t : Train) → IsTrain r t → end_unknown tree i To (text_if To (train_json r t)) ≡ None
  unfolding train_json
  to_known i t kept = end_known i To t.to kept.to

  train_known : (i : ℕ) (t : Train) → IsTrain r t → train_unknown tree i (train_json r t) ≡ None
  train_known i t kept =
      neither _ _ (from_known i t kept)
      (neither _ _ (to_known i t kept)
      (neither _ _ (ap (each (item_unknown tree i Platforms)) (entries-train-Platforms r t) ∙ listed_known i Platforms t.platforms kept.platforms)
      (neither _ _ (ap (each (item_unknown tree i Prefer)) (entries-train-Prefer r t) ∙ listed_known i Prefer t.prefer kept.prefer)
      (neither _ _ (ap (each (charge_unknown tree i)) (entries-train-Surcharges r t) ∙ charges_known i t.surcharges kept.surcharges) refl))))

  pub unknown_clear : unknown (station_json v r) ≡ None
  unfolding unknown
  unknown_clear =
      neither _ _ (ap (each (path_unknown tree)) (entries-Paths v r) ∙ clear-made (path_unknown tree) (path_json r) r.paths (λ i x is. path_known i x (k.path i x is)))
      (neither _ _ (ap (each (pair_unknown (path_names tree))) (entries-Incompatible v r) ∙ clear-made (pair_unknown (path_names tree)) (pair_json r) r.incompatible (λ i x is. pair_known i x (k.pair i x is)))
      (neither _ _ (ap (each (train_unknown tree)) (entries-Trains v r) ∙ clear-made (train_unknown tree) (train_json r) r.trains (λ i t is. train_known i t (k.train i t is))) refl))
