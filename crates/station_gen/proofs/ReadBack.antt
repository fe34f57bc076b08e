-- The reader gives back the station whose text it reads.
use Rattle.std.proofs.Common.{◌≡◌, ℕ, ◌≤◌, List, ◌∷◌, length, false, Option, Some, None, ap, ◌∙◌, arith, nat_le, le-leb}
use Rattle.std.specs.Str.{IsUtf8}
use Rattle.serde_json.specs.Data.{Data, depth}
use Rattle.serde_json.specs.Read.{read, max_depth}
use Rattle.serde_json.specs.Written.{has_float, compact_text}
use Rattle.station_reader.specs.declared.refusal.RefusedKind.{RefusedKind}
use Rattle.station_reader.specs.declared.place.Spot.{Spot}
use Rattle.station_reader.specs.declared.place.Spot.TheVariants.{Entry}
use Rattle.station_reader.specs.declared.member.Member.TheVariants.{Trains}
use Rattle.station_reader.specs.declared.form.Edition.{Edition}
use Rattle.station.specs.declared.part.Train.{Train}
use Rattle.station_reader.specs.First.{unless}
use Rattle.station_reader.specs.Shape.{edition, shape}
use Rattle.station_reader.specs.Classes.{count, name, double, unknown, range}
use Rattle.station.specs.Allowed.{StationRecord, allowed_list}
use Rattle.station.specs.Station.{IsStation}
use Rattle.station_reader.specs.Reading.{taken, judged, classes, patterns, station_record, reading_in, reading}
use Rattle.station_reader.proofs.Whole.{reading-tree}
use Rattle.station_gen.specs.declared.version.Version.{Version}
use Rattle.station_gen.specs.Json.{version_of, station_json, json_of}
use Rattle.station_gen.proofs.Listed.{held, clear}
use Rattle.station_gen.proofs.Found.{edition_in, edition-found}
use Rattle.station_gen.proofs.Said.{IsSaid, said}
use Rattle.station_gen.proofs.ShapeClear.{shape_clear}
use Rattle.station_gen.proofs.CountClear.{count_clear}
use Rattle.station_gen.proofs.NamesClear.{name_clear, double_clear}
use Rattle.station_gen.proofs.UnknownClear.{unknown_clear}
use Rattle.station_gen.proofs.RangeClear.{range_clear}
use Rattle.station_gen.proofs.Recorded.{recorded}
use Rattle.station_gen.proofs.Plain.{station_plain}
use Rattle.station_gen.proofs.Sized.{station-size}

-- a class without a failing place is passed over
passed : (kind : RefusedKind) (found : Option Spot) (rest : List (RefusedKind × Option Spot)) (r : StationRecord) → found ≡ None → judged ((kind, found) ∷ rest) r ≡ judged rest r
passed kind found rest r e = ap (λ o. judged ((kind, o) ∷ rest) r) e

all-passed : (e : Edition) (tree : Data) → shape e tree ≡ None → count tree ≡ None → name tree ≡ None → double tree ≡ None → unknown tree ≡ None → range tree ≡ None → patterns (station_record tree) ≡ None
    → judged (classes e tree) (station_record tree) ≡ taken (station_record tree)
all-passed e tree s c n d u g p =
    passed _ (shape e tree) _ (station_record tree) s ∙ passed _ (count tree) _ (station_record tree) c ∙ passed _ (name tree) _ (station_record tree) n
    ∙ passed _ (double tree) _ (station_record tree) d ∙ passed _ (unknown tree) _ (station_record tree) u ∙ passed _ (range tree) _ (station_record tree) g
    ∙ passed _ (patterns (station_record tree)) _ (station_record tree) p

few_patterns : (r : StationRecord) → IsStation r → patterns r ≡ None
unfolding patterns
few_patterns r k =
    clear (λ (i : ℕ) (t : Train). unless (nat_le (length (allowed_list r t)) 4096) (Entry Trains i)) r.trains
    (λ i t is. held (nat_le (length (allowed_list r t)) 4096) (Entry Trains i) (le-leb (length (allowed_list r t)) 4096 (k.patterns i t is)))

tree_read : (v : Version) (r : StationRecord) → IsStation r → IsSaid v r → reading_in (station_json v r) (edition (station_json v r)) ≡ taken r
tree_read v r k fits =
    let tree = station_json v r in
    let back : station_record tree ≡ r = recorded v r k fits in
    ap (reading_in tree) (edition-found v r)
    ∙ all-passed (edition_in v) tree (shape_clear v r fits) (count_clear v r k) (name_clear v r k) (double_clear v r k) (unknown_clear v r k) (range_clear v r k) (ap patterns back ∙ few_patterns r k)
    ∙ ap taken back

pub no-float : (r : StationRecord) → has_float (json_of r) ≡ false
no-float r = (station_plain (version_of r) r).float

pub shallow : (r : StationRecord) → depth (json_of r) ≤ max_depth
shallow r = omega (arith, (station_plain (version_of r) r).nests)

pub read-back : (bytes : List ℕ) (r : StationRecord) → IsStation r → bytes ≡ compact_text (json_of r) → IsUtf8 bytes → read bytes ≡ Some (json_of r) → reading bytes ≡ taken r
read-back bytes r k is utf8 tree =
    let few : length bytes ≤ 16_777_216 = omega (arith, ap length is, station-size r k (version_of r)) in
    reading-tree bytes (json_of r) few utf8 tree ∙ tree_read (version_of r) r k (said r)
