-- The JSON tree of a station. The members of each object stand in the order of their names, and lists in the station's order.
use Rattle.std.specs.Prelude.{ℕ, List, [], ◌∷◌, ◌++◌, map, Bool, ◌&&◌, ◌==◌, if◌then◌else◌, Option, Some, None, is_some, slice_index_or, codes, ℤ}
use Rattle.std.specs.List.{list_all}
use Rattle.serde_json.specs.Data.{Data, null, boolean, number, string, array, object, unsigned, Members, no_members, member}
use Rattle.serde_json.specs.Find.{of_integer}
use Rattle.serde_json.specs.View.{items_of}
use Rattle.station.specs.declared.part.Platform.{Platform}
use Rattle.station.specs.declared.part.Path.{Path}
use Rattle.station.specs.declared.part.PathWay.{PathWay}
use Rattle.station.specs.declared.part.PathWay.TheVariants.{In, Out}
use Rattle.station.specs.declared.part.PathPair.{PathPair}
use Rattle.station.specs.declared.part.Surcharge.{Surcharge}
use Rattle.station.specs.declared.part.Train.{Train}
use Rattle.station.specs.Allowed.{StationRecord}
use Rattle.station_gen.specs.declared.version.Version.{Version}
use Rattle.station_gen.specs.declared.version.Version.TheVariants.{One, Two}

-- ---- the version

abbrev pub has_no_buffer : Platform → Bool
has_no_buffer p = p.buffer == 0

abbrev pub runs_through : Train → Bool
runs_through t = is_some t.from && is_some t.to

-- Version 1 where there is no buffer and no price for one, and each train comes from a direction and goes to one.
unfoldable pub version_of : StationRecord → Version
version_of r = if (r.buffer_price == 0 && list_all has_no_buffer r.platforms) && list_all runs_through r.trains then One else Two

abbrev pub version_number : Version → ℕ
version_number One = 1
version_number Two = 2

-- ---- values

abbrev pub whole_json : ℕ → Data
whole_json n = number (unsigned n)

abbrev pub minute_json : ℤ → Data
minute_json z = number (of_integer z)

abbrev pub list_json : List Data → Data
list_json ds = array (items_of ds)

abbrev pub members_json : List (List ℕ × Data) → Members
members_json [] = no_members
members_json ((name, d) ∷ ms) = member name d (members_json ms)

abbrev pub object_json : List (List ℕ × Data) → Data
object_json ms = object (members_json ms)

-- the name of this number
abbrev pub named_json : List (List ℕ) → ℕ → Data
named_json names n = string (slice_index_or names n [])

-- null, where there is no number
abbrev pub named_if_json : List (List ℕ) → Option ℕ → Data
named_if_json names None = null
named_if_json names (Some n) = named_json names n

-- ---- the names that numbers stand for

abbrev pub platform_names : StationRecord → List (List ℕ)
platform_names r = map (λ p. p.name) r.platforms

abbrev pub path_names : StationRecord → List (List ℕ)
path_names r = map (λ p. p.name) r.paths

-- ---- platforms

-- version 1 has no buffers
abbrev pub buffer_json : Version → Platform → List (List ℕ × Data)
buffer_json One p = []
buffer_json Two p = (codes "buffer", whole_json p.buffer) ∷ []

abbrev pub members_of_platform : Version → Platform → List (List ℕ × Data)
members_of_platform v p =
    buffer_json v p
    ++ (codes "dummy", boolean p.dummy)
    ∷ (codes "headway", whole_json p.headway)
    ∷ (codes "name", string p.name)
    ∷ (codes "price", whole_json p.price) ∷ []

unfoldable pub platform_json : Version → Platform → Data
platform_json v p = object_json (members_of_platform v p)

-- ---- paths

abbrev pub way_text : PathWay → List ℕ
way_text In = codes "in"
way_text Out = codes "out"

abbrev pub members_of_path : StationRecord → Path → List (List ℕ × Data)
members_of_path r p =
    (codes "direction", named_json r.directions p.direction)
    ∷ (codes "minutes", whole_json p.minutes)
    ∷ (codes "name", string p.name)
    ∷ (codes "platform", named_json (platform_names r) p.platform)
    ∷ (codes "price", whole_json p.price)
    ∷ (codes "way", string (way_text p.way)) ∷ []

unfoldable pub path_json : StationRecord → Path → Data
path_json r p = object_json (members_of_path r p)

unfoldable pub pair_json : StationRecord → PathPair → Data
pair_json r x = list_json (named_json (path_names r) x.first ∷ named_json (path_names r) x.second ∷ [])

-- ---- trains

abbrev pub platforms_json : StationRecord → List ℕ → Data
platforms_json r ps = list_json (map (named_json (platform_names r)) ps)

unfoldable pub charge_json : StationRecord → Surcharge → Data
charge_json r s = list_json (named_json (platform_names r) s.platform ∷ whole_json s.price ∷ [])

abbrev pub members_of_train : StationRecord → Train → List (List ℕ × Data)
members_of_train r t =
    (codes "arrive", minute_json t.arrive)
    ∷ (codes "arrive_early", whole_json t.arrive_early)
    ∷ (codes "arrive_late", whole_json t.arrive_late)
    ∷ (codes "depart", minute_json t.depart)
    ∷ (codes "depart_early", whole_json t.depart_early)
    ∷ (codes "depart_late", whole_json t.depart_late)
    ∷ (codes "dwell", whole_json t.dwell)
    ∷ (codes "from", named_if_json r.directions t.from)
    ∷ (codes "name", string t.name)
    ∷ (codes "off_price", whole_json t.off_price)
    ∷ (codes "platforms", platforms_json r t.platforms)
    ∷ (codes "prefer", platforms_json r t.prefer)
    ∷ (codes "shift_price", whole_json t.shift_price)
    ∷ (codes "surcharges", list_json (map (charge_json r) t.surcharges))
    ∷ (codes "to", named_if_json r.directions t.to) ∷ []

unfoldable pub train_json : StationRecord → Train → Data
train_json r t = object_json (members_of_train r t)

-- ---- the station

-- version 1 has no price for buffers
abbrev pub buffer_price_json : Version → StationRecord → List (List ℕ × Data)
buffer_price_json One r = []
buffer_price_json Two r = (codes "buffer_price", whole_json r.buffer_price) ∷ []

-- the members of both versions
abbrev pub main_members : Version → StationRecord → List (List ℕ × Data)
main_members v r =
    (codes "conflict_price", whole_json r.conflict_price)
    ∷ (codes "directions", list_json (map string r.directions))
    ∷ (codes "format", string (codes "tpp-station"))
    ∷ (codes "incompatible", list_json (map (pair_json r) r.incompatible))
    ∷ (codes "paths", list_json (map (path_json r) r.paths))
    ∷ (codes "platforms", list_json (map (platform_json v) r.platforms))
    ∷ (codes "threshold", whole_json r.threshold)
    ∷ (codes "trains", list_json (map (train_json r) r.trains))
    ∷ (codes "version", whole_json (version_number v)) ∷ []

abbrev pub members_of_station : Version → StationRecord → List (List ℕ × Data)
members_of_station v r = buffer_price_json v r ++ main_members v r

unfoldable pub station_json : Version → StationRecord → Data
station_json v r = object_json (members_of_station v r)

-- in the lowest version that can say the station
abbrev pub json_of : StationRecord → Data
json_of r = station_json (version_of r) r
