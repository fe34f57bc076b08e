-- The integers of the tree of a station are within their limits.
use Rattle.std.proofs.Common.{◌≡◌, ℕ, ◌≤◌, Some, None, option_and_then, unwrap_or, refl, ap, ◌∙◌, arith, ℤ, pos, negsuc, ◌≤ℤ◌, lit≤}
use Rattle.std.proofs.lemmas.Int.{ints}
use Rattle.station_reader.specs.declared.member.Member.{Member}
use Rattle.station_reader.specs.declared.member.Member.TheVariants.{Threshold, ConflictPrice, BufferPrice, Price, Headway, Buffer, Minutes, Arrive, Depart, Dwell, ArriveEarly, ArriveLate, DepartEarly, DepartLate, OffPrice, ShiftPrice, Surcharges}
use Rattle.station_reader.specs.declared.place.Spot.{Spot}
use Rattle.station.specs.declared.part.Platform.{Platform}
use Rattle.station.specs.declared.part.Path.{Path}
use Rattle.station.specs.declared.part.Surcharge.{Surcharge}
use Rattle.station.specs.declared.part.Train.{Train}
use Rattle.station_reader.specs.First.{unless, each}
use Rattle.station_reader.specs.Tree.{whole, integer_at}
use Rattle.station_reader.specs.Classes.{least, most, within, station_range, platform_range, path_range, charge_range, train_times, train_shifts, train_prices, train_range, range}
use Rattle.station.specs.Allowed.{StationRecord}
use Rattle.station.specs.Station.{IsPlatform, IsPath, IsTrain, IsStation}
use Rattle.station_gen.specs.declared.version.Version.{Version}
use Rattle.station_gen.specs.declared.version.Version.TheVariants.{One, Two}
use Rattle.station_gen.specs.Json.{minute_json, platform_json, path_json, charge_json, train_json, station_json}
use Rattle.station_gen.proofs.Listed.{neither, held, clear-made, within-limits}
use Rattle.station_gen.proofs.Found.{integer-found, at-Threshold, at-ConflictPrice, at-BufferPrice, no-BufferPrice, entries-Platforms, entries-Paths, entries-Trains, entries-train-Surcharges}

ranged : (m : Member) (z : ℤ) (n : ℕ) (s : Spot) → z ≡ pos n → least m ≤ n → n ≤ most m → unless (within m z) s ≡ None
ranged m z n s e l h = ap (λ y. unless (within m y) s) e ∙ held (within m (pos n)) s (within-limits (least m) (most m) n l h)

-- a minute is read as itself
pub minute-is : (z : ℤ) → unwrap_or (option_and_then whole (Some (minute_json z))) (pos 0) ≡ z
minute-is (pos n) = refl
minute-is (negsuc n) = refl

minute_ranged : (m : Member) (y z : ℤ) (s : Spot) → y ≡ z → least m ≡ 0 → pos 0 ≤ℤ z → z ≤ℤ pos (most m) → unless (within m y) s ≡ None
minute_ranged m y (pos n) s e none l h = ranged m y n s e (omega arith) (omega (arith, ints))
minute_ranged m y (negsuc n) s e none l h = absurd (omega (arith, ints))

platform_ranged : (v : Version) (i : ℕ) (p : Platform) → IsPlatform p → platform_range i (platform_json v p) ≡ None
unfolding platform_json
platform_ranged One i p k =
    neither _ _ (ranged Price (pos p.price) p.price _ refl (omega arith) k.price)
    (neither _ _ (ranged Headway (pos p.headway) p.headway _ refl (omega arith) k.headway) refl)
platform_ranged Two i p k =
    neither _ _ (ranged Price (pos p.price) p.price _ refl (omega arith) k.price)
    (neither _ _ (ranged Headway (pos p.headway) p.headway _ refl (omega arith) k.headway) (neither _ _ (ranged Buffer (pos p.buffer) p.buffer _ refl (omega arith) k.buffer) refl))

path_ranged : (r : StationRecord) (i : ℕ) (p : Path) → IsPath r p → path_range i (path_json r p) ≡ None
unfolding path_json
path_ranged r i p k =
    neither _ _ (ranged Minutes (pos p.minutes) p.minutes _ refl k.minutes_least k.minutes_most) (neither _ _ (ranged Price (pos p.price) p.price _ refl (omega arith) k.price) refl)

module _ (r : StationRecord) (i : ℕ) (t : Train) (k : IsTrain r t) where
  arrives : integer_at Arrive (train_json r t) ≡ t.arrive
  unfolding train_json
  arrives = minute-is t.arrive

  departs : integer_at Depart (train_json r t) ≡ t.depart
  unfolding train_json
  departs = minute-is t.depart

  dwells : integer_at Dwell (train_json r t) ≡ pos t.dwell
  unfolding train_json
  dwells = refl

  times_ranged : train_times i (train_json r t) ≡ None
  times_ranged =
      neither _ _ (minute_ranged Arrive _ t.arrive _ arrives refl k.arrive_least k.arrive_most)
      (neither _ _ (minute_ranged Depart _ t.depart _ departs refl k.depart_least k.depart_most)
      (neither _ _ (ranged Dwell _ t.dwell _ dwells k.dwell_least k.dwell_most) refl))

  shifts_ranged : train_shifts i (train_json r t) ≡ None
  unfolding train_json
  shifts_ranged =
      neither _ _ (ranged ArriveEarly (pos t.arrive_early) t.arrive_early _ refl (omega arith) k.arrive_early)
      (neither _ _ (ranged ArriveLate (pos t.arrive_late) t.arrive_late _ refl (omega arith) k.arrive_late)
      (neither _ _ (ranged DepartEarly (pos t.depart_early) t.depart_early _ refl (omega arith) k.depart_early)
      (neither _ _ (ranged DepartLate (pos t.depart_late) t.depart_late _ refl (omega arith) k.depart_late) refl)))

  prices_ranged : train_prices i (train_json r t) ≡ None
  unfolding train_json
  prices_ranged =
      neither _ _ (ranged OffPrice (pos t.off_price) t.off_price _ refl (omega arith) k.off_price)
      (neither _ _ (ranged ShiftPrice (pos t.shift_price) t.shift_price _ refl (omega arith) k.shift_price) refl)

  charge_ranged : (j : ℕ) (s : Surcharge) → s.price ≤ 1_000_000_000 → charge_range i j (charge_json r s) ≡ None
  unfolding charge_json
  charge_ranged j s h = ranged Surcharges (pos s.price) s.price _ refl (omega arith) h

  train_ranged : train_range i (train_json r t) ≡ None
  train_ranged =
      neither _ _ times_ranged
      (neither _ _ shifts_ranged
      (neither _ _ prices_ranged
      (neither _ _ (ap (each (charge_range i)) (entries-train-Surcharges r t) ∙ clear-made (charge_range i) (charge_json r) t.surcharges (λ j s is. charge_ranged j s (k.surcharge j s is))) refl)))

buffer_ranged : (v : Version) (r : StationRecord) → IsStation r → station_range BufferPrice (station_json v r) ≡ None
buffer_ranged One r k = ranged BufferPrice _ 0 _ (no-BufferPrice r) (omega arith) (lit≤ tt)
buffer_ranged Two r k = ranged BufferPrice _ r.buffer_price _ (integer-found BufferPrice (station_json Two r) r.buffer_price (at-BufferPrice r)) (omega arith) k.buffer_price

pub range_clear : (v : Version) (r : StationRecord) → IsStation r → range (station_json v r) ≡ None
unfolding range
range_clear v r k =
    let tree = station_json v r in
    neither _ _ (ranged Threshold _ r.threshold _ (integer-found Threshold tree r.threshold (at-Threshold v r)) (omega arith) k.threshold)
    (neither _ _ (ranged ConflictPrice _ r.conflict_price _ (integer-found ConflictPrice tree r.conflict_price (at-ConflictPrice v r)) (omega arith) k.conflict_price)
    (neither _ _ (buffer_ranged v r k)
    (neither _ _ (ap (each platform_range) (entries-Platforms v r) ∙ clear-made platform_range (platform_json v) r.platforms (λ i p is. platform_ranged v i p (k.platform i p is)))
    (neither _ _ (ap (each path_range) (entries-Paths v r) ∙ clear-made path_range (path_json r) r.paths (λ i p is. path_ranged r i p (k.path i p is)))
    (neither _ _ (ap (each train_range) (entries-Trains v r) ∙ clear-made train_range (train_json r) r.trains (λ i t is. train_ranged r i t (k.train i t is))) refl)))))
