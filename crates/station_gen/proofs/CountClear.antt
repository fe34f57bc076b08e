-- The lists of the tree of a station are as long as they may be.
use Rattle.std.proofs.Common.{◌≡◌, ℕ, ◌≤◌, List, map, length, None, refl, ap, ◌∙◌, arith}
use Rattle.serde_json.specs.Data.{Data, string}
use Rattle.station_reader.specs.declared.member.Member.TheVariants.{Directions, Platforms, Paths, Incompatible, Trains, Prefer, Surcharges}
use Rattle.station_reader.specs.declared.place.Spot.{Spot}
use Rattle.station_reader.specs.declared.place.Spot.TheVariants.{Of, Field}
use Rattle.station.specs.declared.part.Surcharge.{Surcharge}
use Rattle.station.specs.declared.part.Train.{Train}
use Rattle.station_reader.specs.First.{unless, each}
use Rattle.station_reader.specs.Tree.{entries_at}
use Rattle.station_reader.specs.Classes.{length_within, train_count, count}
use Rattle.station.specs.Allowed.{StationRecord}
use Rattle.station.specs.Station.{IsTrain, IsStation}
use Rattle.station.proofs.Lists.{length-made}
use Rattle.station_gen.specs.declared.version.Version.{Version}
use Rattle.station_gen.specs.Json.{named_json, platform_names, platform_json, path_json, pair_json, charge_json, train_json, station_json}
use Rattle.station_gen.proofs.Listed.{neither, held, clear-made, within-limits}
use Rattle.station_gen.proofs.Found.{entries-Directions, entries-Platforms, entries-Paths, entries-Incompatible, entries-Trains, entries-train-Platforms, entries-train-Prefer, entries-train-Surcharges}

within-made : {X : Type 0} (low high : ℕ) (ds : List Data) (f : X → Data) (xs : List X) (s : Spot) → ds ≡ map f xs → low ≤ length xs → length xs ≤ high → unless (length_within low high ds) s ≡ None
within-made low high ds f xs s e l h =
    let same : length ds ≡ length xs = ap length e ∙ length-made f xs in
    held (length_within low high ds) s (within-limits low high (length ds) (omega arith) (omega arith))

train_counted : (r : StationRecord) (i : ℕ) (t : Train) → IsTrain r t → train_count i (train_json r t) ≡ None
train_counted r i t k =
    let surcharges : length t.surcharges ≤ 64 = omega (arith, k.surcharges.count, length-made (λ (s : Surcharge). s.platform) t.surcharges) in
    neither _ _ (within-made 0 64 (entries_at Platforms (train_json r t)) (named_json (platform_names r)) t.platforms (Field Trains i Platforms) (entries-train-Platforms r t) (omega arith) k.platforms.count)
    (neither _ _ (within-made 0 64 (entries_at Prefer (train_json r t)) (named_json (platform_names r)) t.prefer (Field Trains i Prefer) (entries-train-Prefer r t) (omega arith) k.prefer.count)
    (neither _ _ (within-made 0 64 (entries_at Surcharges (train_json r t)) (charge_json r) t.surcharges (Field Trains i Surcharges) (entries-train-Surcharges r t) (omega arith) surcharges) refl))

pub count_clear : (v : Version) (r : StationRecord) → IsStation r → count (station_json v r) ≡ None
unfolding count
count_clear v r k =
    let tree = station_json v r in
    neither _ _ (within-made 1 64 (entries_at Directions tree) string r.directions (Of Directions) (entries-Directions v r) k.directions_least k.directions_most)
    (neither _ _ (within-made 1 64 (entries_at Platforms tree) (platform_json v) r.platforms (Of Platforms) (entries-Platforms v r) k.platforms_least k.platforms_most)
    (neither _ _ (within-made 0 500 (entries_at Paths tree) (path_json r) r.paths (Of Paths) (entries-Paths v r) (omega arith) k.paths_most)
    (neither _ _ (within-made 0 250_000 (entries_at Incompatible tree) (pair_json r) r.incompatible (Of Incompatible) (entries-Incompatible v r) (omega arith) k.incompatible_most)
    (neither _ _ (within-made 0 200 (entries_at Trains tree) (train_json r) r.trains (Of Trains) (entries-Trains v r) (omega arith) k.trains_most)
    (neither _ _ (ap (each train_count) (entries-Trains v r) ∙ clear-made train_count (train_json r) r.trains (λ i t is. train_counted r i t (k.train i t is))) refl)))))
