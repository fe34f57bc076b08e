-- What is true of every station: its limits, distinct names, and numbers that are there.
use Rattle.std.specs.Prelude.{◌≡◌, ℕ, ◌+◌, ◌*◌, ◌<◌, ◌≤◌, List, length, false, Some, slice_get, pos, ◌≤ℤ◌, IsTrue, map}
use Rattle.station.specs.declared.part.Platform.{Platform}
use Rattle.station.specs.declared.part.Path.{Path}
use Rattle.station.specs.declared.part.PathPair.{PathPair}
use Rattle.station.specs.declared.part.Train.{Train}
use Rattle.station.specs.declared.part.Surcharge.{Surcharge}
use Rattle.station.specs.Named.{is_name}
use Rattle.station.specs.Allowed.{StationRecord, allowed_list}

-- no name stands at two places
abbrev pub AllDiffer : List (List ℕ) → Type 0
AllDiffer names = (i j : ℕ) (n : List ℕ) → slice_get names i ≡ Some n → slice_get names j ≡ Some n → i ≡ j

pub record IsPlatform (p : Platform) : Type 0 where
  pub name : IsTrue (is_name p.name)
  pub price : p.price ≤ 1_000_000_000
  pub headway : p.headway ≤ 60
  pub buffer : p.buffer ≤ 60

pub record IsPath (r : StationRecord) (p : Path) : Type 0 where
  pub name : IsTrue (is_name p.name)
  pub direction : p.direction < length r.directions
  pub platform : p.platform < length r.platforms
  pub regular : (q : Platform) → slice_get r.platforms p.platform ≡ Some q → q.dummy ≡ false
  pub minutes_least : 1 ≤ p.minutes
  pub minutes_most : p.minutes ≤ 60
  pub price : p.price ≤ 1_000_000_000

-- each pair is of two paths, the first below the second
pub record IsPair (r : StationRecord) (x : PathPair) : Type 0 where
  pub order : x.first < x.second
  pub there : x.second < length r.paths

-- platform numbers that are there, ascending
pub record ArePlatforms (r : StationRecord) (ps : List ℕ) : Type 0 where
  pub count : length ps ≤ 64
  pub there : (i p : ℕ) → slice_get ps i ≡ Some p → p < length r.platforms
  pub ascending : (i j p q : ℕ) → i < j → slice_get ps i ≡ Some p → slice_get ps j ≡ Some q → p < q

abbrev pub charged : List Surcharge → List ℕ
charged = map (λ s. s.platform)

pub record IsTrain (r : StationRecord) (t : Train) : Type 0 where
  pub name : IsTrue (is_name t.name)
  pub «from» : (d : ℕ) → t.from ≡ Some d → d < length r.directions
  pub to : (d : ℕ) → t.to ≡ Some d → d < length r.directions
  pub arrive_least : pos 0 ≤ℤ t.arrive
  pub arrive_most : t.arrive ≤ℤ pos 2879
  pub depart_least : pos 0 ≤ℤ t.depart
  pub depart_most : t.depart ≤ℤ pos 2879
  pub dwell_least : 1 ≤ t.dwell
  pub dwell_most : t.dwell ≤ 2879
  pub arrive_early : t.arrive_early ≤ 30
  pub arrive_late : t.arrive_late ≤ 30
  pub depart_early : t.depart_early ≤ 30
  pub depart_late : t.depart_late ≤ 30
  pub platforms : ArePlatforms r t.platforms
  pub prefer : ArePlatforms r t.prefer
  pub off_price : t.off_price ≤ 1_000_000_000
  pub shift_price : t.shift_price ≤ 1_000_000
  pub surcharges : ArePlatforms r (charged t.surcharges)
  pub surcharge : (i : ℕ) (s : Surcharge) → slice_get t.surcharges i ≡ Some s → s.price ≤ 1_000_000_000

-- the first number of x is below that of y, or the two are equal and the second is below
abbrev pub IsBefore : PathPair → PathPair → Type 0
IsBefore x y = 1000 * x.first + x.second < 1000 * y.first + y.second

pub record IsStation (r : StationRecord) : Type 0 where
  pub threshold : r.threshold ≤ 60
  pub conflict_price : r.conflict_price ≤ 1_000_000
  pub buffer_price : r.buffer_price ≤ 1_000_000
  pub directions_least : 1 ≤ length r.directions
  pub directions_most : length r.directions ≤ 64
  pub platforms_least : 1 ≤ length r.platforms
  pub platforms_most : length r.platforms ≤ 64
  pub paths_most : length r.paths ≤ 500
  pub incompatible_most : length r.incompatible ≤ 250_000
  pub trains_most : length r.trains ≤ 200
  pub direction : (i : ℕ) (n : List ℕ) → slice_get r.directions i ≡ Some n → IsTrue (is_name n)
  pub platform : (i : ℕ) (p : Platform) → slice_get r.platforms i ≡ Some p → IsPlatform p
  pub path : (i : ℕ) (p : Path) → slice_get r.paths i ≡ Some p → IsPath r p
  pub pair : (i : ℕ) (x : PathPair) → slice_get r.incompatible i ≡ Some x → IsPair r x
  pub pairs_ascending : (i j : ℕ) (x y : PathPair) → i < j → slice_get r.incompatible i ≡ Some x → slice_get r.incompatible j ≡ Some y → IsBefore x y
  pub train : (i : ℕ) (t : Train) → slice_get r.trains i ≡ Some t → IsTrain r t
  pub patterns : (i : ℕ) (t : Train) → slice_get r.trains i ≡ Some t → length (allowed_list r t) ≤ 4096
  pub directions_differ : AllDiffer r.directions
  pub platforms_differ : AllDiffer (map (λ p. p.name) r.platforms)
  pub paths_differ : AllDiffer (map (λ p. p.name) r.paths)
  pub trains_differ : AllDiffer (map (λ t. t.name) r.trains)
