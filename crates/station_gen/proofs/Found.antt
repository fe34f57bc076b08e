-- What stands at the members of the tree of a station.
use Rattle.std.proofs.Common.{◌≡◌, ℕ, List, [], ◌∷◌, map, true, Some, refl, ap, ◌∙◌, pos, option_and_then, unwrap_or}
use Rattle.serde_json.specs.Data.{Data, string}
use Rattle.serde_json.specs.Find.{as_array}
use Rattle.station_reader.specs.declared.member.Member.{Member}
use Rattle.station_reader.specs.declared.member.Member.TheVariants.{Threshold, ConflictPrice, BufferPrice, Directions, Platforms, Paths, Incompatible, Trains, Prefer, Surcharges}
use Rattle.station_reader.specs.declared.form.Edition.{Edition}
use Rattle.station_reader.specs.declared.form.Edition.TheVariants.{One as EditionOne, Two as EditionTwo}
use Rattle.station_reader.specs.First.{occurs}
use Rattle.station_reader.specs.Tree.{at, entries_if, entries_at, whole, integer_at, texts}
use Rattle.station_reader.specs.Shape.{edition, has_only, station_members}
use Rattle.station_reader.specs.Classes.{names, direction_names, platform_names, path_names}
use Rattle.station.specs.Allowed.{StationRecord}
use Rattle.station.specs.declared.part.Platform.{Platform}
use Rattle.station.specs.declared.part.Path.{Path}
use Rattle.station.specs.declared.part.Train.{Train}
use Rattle.station_gen.specs.declared.version.Version.{Version}
use Rattle.station_gen.specs.declared.version.Version.TheVariants.{One, Two}
use Rattle.station_gen.specs.Json.{whole_json, list_json, platform_json, path_json, pair_json, train_json, charge_json, named_json, station_json, platform_names as platform_names_of, path_names as path_names_of}
use Rattle.station_gen.proofs.Listed.{list_of-items_of}

abbrev pub edition_in : Version → Edition
edition_in One = EditionOne
edition_in Two = EditionTwo

-- ---- by what stands at a member

pub entries-found : (m : Member) (tree : Data) (ds : List Data) → at m tree ≡ Some (list_json ds) → entries_at m tree ≡ ds
entries-found m tree ds e = ap (λ o. entries_if (option_and_then as_array o)) e ∙ list_of-items_of ds

pub integer-found : (m : Member) (tree : Data) (n : ℕ) → at m tree ≡ Some (whole_json n) → integer_at m tree ≡ pos n
integer-found m tree n e = ap (λ o. unwrap_or (option_and_then whole o) (pos 0)) e

-- ---- the members of the station

pub at-Threshold : (v : Version) (r : StationRecord) → at Threshold (station_json v r) ≡ Some (whole_json r.threshold)
unfolding station_json
at-Threshold One r = refl
at-Threshold Two r = refl

pub at-ConflictPrice : (v : Version) (r : StationRecord) → at ConflictPrice (station_json v r) ≡ Some (whole_json r.conflict_price)
unfolding station_json
at-ConflictPrice One r = refl
at-ConflictPrice Two r = refl

pub at-BufferPrice : (r : StationRecord) → at BufferPrice (station_json Two r) ≡ Some (whole_json r.buffer_price)
unfolding station_json
at-BufferPrice r = refl

pub no-BufferPrice : (r : StationRecord) → integer_at BufferPrice (station_json One r) ≡ pos 0
unfolding station_json
no-BufferPrice r = refl

pub at-Directions : (v : Version) (r : StationRecord) → at Directions (station_json v r) ≡ Some (list_json (map string r.directions))
unfolding station_json
at-Directions One r = refl
at-Directions Two r = refl

pub at-Platforms : (v : Version) (r : StationRecord) → at Platforms (station_json v r) ≡ Some (list_json (map (platform_json v) r.platforms))
unfolding station_json
at-Platforms One r = refl
at-Platforms Two r = refl

pub at-Paths : (v : Version) (r : StationRecord) → at Paths (station_json v r) ≡ Some (list_json (map (path_json r) r.paths))
unfolding station_json
at-Paths One r = refl
at-Paths Two r = refl

pub at-Incompatible : (v : Version) (r : StationRecord) → at Incompatible (station_json v r) ≡ Some (list_json (map (pair_json r) r.incompatible))
unfolding station_json
at-Incompatible One r = refl
at-Incompatible Two r = refl

pub at-Trains : (v : Version) (r : StationRecord) → at Trains (station_json v r) ≡ Some (list_json (map (train_json r) r.trains))
unfolding station_json
at-Trains One r = refl
at-Trains Two r = refl

pub only-members : (v : Version) (r : StationRecord) → has_only (station_members (edition_in v)) (station_json v r) ≡ true
unfolding station_json has_only occurs
only-members One r = refl
only-members Two r = refl

pub edition-found : (v : Version) (r : StationRecord) → edition (station_json v r) ≡ Some (edition_in v)
unfolding station_json
edition-found One r = refl
edition-found Two r = refl

-- ---- the lists, and the names that they declare

module _ (v : Version) (r : StationRecord) where
  pub entries-Directions : entries_at Directions (station_json v r) ≡ map string r.directions
  entries-Directions = entries-found Directions (station_json v r) (map string r.directions) (at-Directions v r)

  pub entries-Platforms : entries_at Platforms (station_json v r) ≡ map (platform_json v) r.platforms
  entries-Platforms = entries-found Platforms (station_json v r) (map (platform_json v) r.platforms) (at-Platforms v r)

  pub entries-Paths : entries_at Paths (station_json v r) ≡ map (path_json r) r.paths
  entries-Paths = entries-found Paths (station_json v r) (map (path_json r) r.paths) (at-Paths v r)

  pub entries-Incompatible : entries_at Incompatible (station_json v r) ≡ map (pair_json r) r.incompatible
  entries-Incompatible = entries-found Incompatible (station_json v r) (map (pair_json r) r.incompatible) (at-Incompatible v r)

  pub entries-Trains : entries_at Trains (station_json v r) ≡ map (train_json r) r.trains
  entries-Trains = entries-found Trains (station_json v r) (map (train_json r) r.trains) (at-Trains v r)

texts-string : (ns : List (List ℕ)) → texts (map string ns) ≡ ns
texts-string [] = refl
texts-string (n ∷ ns) = ap (λ ms. n ∷ ms) (texts-string ns)

pub direction-names : (v : Version) (r : StationRecord) → direction_names (station_json v r) ≡ r.directions
direction-names v r = ap texts (entries-Directions v r) ∙ texts-string r.directions

names-platform : (v : Version) (ps : List Platform) → names (map (platform_json v) ps) ≡ map (λ p. p.name) ps
unfolding platform_json
names-platform v [] = refl
names-platform One (p ∷ ps) = ap (λ ns. p.name ∷ ns) (names-platform One ps)
names-platform Two (p ∷ ps) = ap (λ ns. p.name ∷ ns) (names-platform Two ps)

pub platform-names : (v : Version) (r : StationRecord) → platform_names (station_json v r) ≡ platform_names_of r
platform-names v r = ap names (entries-Platforms v r) ∙ names-platform v r.platforms

names-path : (r : StationRecord) (ps : List Path) → names (map (path_json r) ps) ≡ map (λ p. p.name) ps
unfolding path_json
names-path r [] = refl
names-path r (p ∷ ps) = ap (λ ns. p.name ∷ ns) (names-path r ps)

pub path-names : (v : Version) (r : StationRecord) → path_names (station_json v r) ≡ path_names_of r
path-names v r = ap names (entries-Paths v r) ∙ names-path r r.paths

names-train : (r : StationRecord) (ts : List Train) → names (map (train_json r) ts) ≡ map (λ t. t.name) ts
unfolding train_json
names-train r [] = refl
names-train r (t ∷ ts) = ap (λ ns. t.name ∷ ns) (names-train r ts)

pub train-names : (v : Version) (r : StationRecord) → names (entries_at Trains (station_json v r)) ≡ map (λ t. t.name) r.trains
train-names v r = ap names (entries-Trains v r) ∙ names-train r r.trains

-- ---- the lists of a train

module _ (r : StationRecord) (t : Train) where
  pub entries-train-Platforms : entries_at Platforms (train_json r t) ≡ map (named_json (platform_names_of r)) t.platforms
  unfolding train_json
  entries-train-Platforms = list_of-items_of (map (named_json (platform_names_of r)) t.platforms)

  pub entries-train-Prefer : entries_at Prefer (train_json r t) ≡ map (named_json (platform_names_of r)) t.prefer
  unfolding train_json
  entries-train-Prefer = list_of-items_of (map (named_json (platform_names_of r)) t.prefer)

  pub entries-train-Surcharges : entries_at Surcharges (train_json r t) ≡ map (charge_json r) t.surcharges
  unfolding train_json
  entries-train-Surcharges = list_of-items_of (map (charge_json r) t.surcharges)
