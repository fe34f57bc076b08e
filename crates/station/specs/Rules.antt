-- What the rules allow a train, in the words of the rules, and the law that the list of its patterns is what they allow, in order.
use Rattle.std.specs.Prelude.{◌≡◌, ℕ, ◌<◌, ◌⊎◌, ◌↔◌, Bool, true, false, Option, Some, None, slice_get, pos, ◌+ℤ◌, ◌-ℤ◌, ◌≤ℤ◌, ◌<ℤ◌, ⊤}
use Rattle.std.specs.List.{Contains}
use Rattle.station.specs.declared.part.Platform.{Platform}
use Rattle.station.specs.declared.part.Path.{Path}
use Rattle.station.specs.declared.part.PathWay.{PathWay}
use Rattle.station.specs.declared.part.PathWay.TheVariants.{In, Out}
use Rattle.station.specs.declared.part.Train.{Train}
use Rattle.station.specs.declared.part.Pattern.{Pattern}
use Rattle.station.specs.Allowed.{StationRecord, allowed_list}

-- Path i is of this way, between the direction and the platform.
pub record IsPathBetween (r : StationRecord) (way : PathWay) (direction platform i : ℕ) : Type 0 where
  pub path : Path
  pub there : slice_get r.paths i ≡ Some path
  pub runs : path.way ≡ way
  pub at_direction : path.direction ≡ direction
  pub at_platform : path.platform ≡ platform

-- Where the train has a direction, the path is one of this way between that direction and the platform. Where it has none, there is no path.
abbrev pub TakesPath : StationRecord → PathWay → Option ℕ → ℕ → Option ℕ → Type 0
TakesPath r way None platform path = path ≡ None
TakesPath r way (Some direction) platform path = (i : ℕ) × (path ≡ Some i) × IsPathBetween r way direction platform i

-- The paths of a pattern on a platform: on a dummy platform there is none.
abbrev pub HasPathsOf : StationRecord → Train → Pattern → Bool → Type 0
HasPathsOf r t x true = (x.path_in ≡ None) × (x.path_out ≡ None)
HasPathsOf r t x false = TakesPath r In t.from x.platform x.path_in × TakesPath r Out t.to x.platform x.path_out

-- The rules of an allowed pattern.
pub record IsAllowed (r : StationRecord) (t : Train) (x : Pattern) : Type 0 where
  pub platform : Contains t.platforms x.platform
  pub paths : (p : Platform) → slice_get r.platforms x.platform ≡ Some p → HasPathsOf r t x p.dummy
  pub arrive_least : (t.arrive -ℤ pos t.arrive_early) ≤ℤ x.arrive
  pub arrive_most : x.arrive ≤ℤ (t.arrive +ℤ pos t.arrive_late)
  pub depart_least : (t.depart -ℤ pos t.depart_early) ≤ℤ x.depart
  pub depart_most : x.depart ≤ℤ (t.depart +ℤ pos t.depart_late)
  pub dwell : (x.arrive +ℤ pos t.dwell) ≤ℤ x.depart

-- For each train of the station, a pattern is in the train's list exactly where the rules allow it.
abbrev pub ListsAllowed : StationRecord → Type 0
ListsAllowed r = (t : Train) (x : Pattern) → Contains r.trains t → Contains (allowed_list r t) x ↔ IsAllowed r t x

-- ---- the order of the list

-- None comes before each path, and paths go by number.
abbrev pub PathBefore : Option ℕ → Option ℕ → Type 0
PathBefore None None = ⊥
PathBefore None (Some j) = ⊤
PathBefore (Some i) None = ⊥
PathBefore (Some i) (Some j) = i < j

-- The one comes first, or the two are the same and what is left decides.
abbrev pub Or : Type 0 → Type 0 → Type 0 → Type 0
Or first same rest = first ⊎ (same × rest)

-- By platform, then arrival path, departure path, arrival minute and departure minute.
abbrev pub ComesBefore : Pattern → Pattern → Type 0
ComesBefore x y =
    Or (x.platform < y.platform) (x.platform ≡ y.platform)
    (Or (PathBefore x.path_in y.path_in) (x.path_in ≡ y.path_in)
    (Or (PathBefore x.path_out y.path_out) (x.path_out ≡ y.path_out)
    (Or (x.arrive <ℤ y.arrive) (x.arrive ≡ y.arrive) (x.depart <ℤ y.depart))))

-- In each train's list a pattern comes before each later one.
abbrev pub ListsAscend : StationRecord → Type 0
ListsAscend r =
    (t : Train) (i j : ℕ) (x y : Pattern) → i < j → slice_get (allowed_list r t) i ≡ Some x → slice_get (allowed_list r t) j ≡ Some y → ComesBefore x y
