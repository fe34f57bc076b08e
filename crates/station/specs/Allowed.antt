-- A station as a record, and the patterns that its rules allow a train.
use Rattle.std.specs.Prelude.{ℕ, ◌+◌, List, ◌∷◌, map, filter, flat_map, length, Bool, false, true, ◌&&◌, ◌==◌, if◌then◌else◌, is_none, Option, Some, None, slice_get, ℤ, pos, ◌+ℤ◌, ◌-ℤ◌, int_le}
use Rattle.std.specs.List.{list_any, range_with_len}
use Rattle.station.specs.declared.part.Platform.{Platform}
use Rattle.station.specs.declared.part.Path.{Path}
use Rattle.station.specs.declared.part.PathWay.{PathWay}
use Rattle.station.specs.declared.part.PathWay.TheVariants.{In, Out}
use Rattle.station.specs.declared.part.PathPair.{PathPair}
use Rattle.station.specs.declared.part.Train.{Train}
use Rattle.station.specs.declared.part.Pattern.{Pattern}

pub record StationRecord : Type 0 where
  pub threshold : ℕ
  pub conflict_price : ℕ
  pub buffer_price : ℕ
  pub directions : List (List ℕ)
  pub platforms : List Platform
  pub paths : List Path
  pub incompatible : List PathPair
  pub trains : List Train

-- 0 up to n
abbrev pub numbers : ℕ → List ℕ
numbers n = range_with_len 0 n

-- no path, then each of n paths
abbrev pub path_choices : ℕ → List (Option ℕ)
path_choices n = None ∷ map Some (numbers n)

-- the minutes from `early` before a timetabled one to `late` after it
abbrev pub window : ℤ → ℕ → ℕ → List ℤ
window minute early late = map (λ k. (minute -ℤ pos early) +ℤ pos k) (numbers (early + late + 1))

-- all tuples of a platform, a path or none, a path or none, and two minutes within the shifts, ascending
abbrev pub tuples : StationRecord → Train → List Pattern
tuples r t =
    flat_map (λ p. flat_map (λ i. flat_map (λ o. flat_map (λ a. map (λ d.
    record { platform = p; path_in = i; path_out = o; arrive = a; depart = d })
    (window t.depart t.depart_early t.depart_late))
    (window t.arrive t.arrive_early t.arrive_late))
    (path_choices (length r.paths)))
    (path_choices (length r.paths)))
    (numbers (length r.platforms))

abbrev pub same_way : PathWay → PathWay → Bool
same_way In In = true
same_way In Out = false
same_way Out In = false
same_way Out Out = true

abbrev pub joins : PathWay → ℕ → ℕ → Path → Bool
joins way direction platform x = same_way way x.way && x.direction == direction && x.platform == platform

abbrev pub is_path_of : PathWay → ℕ → ℕ → Option Path → Bool
is_path_of way direction platform None = false
is_path_of way direction platform (Some x) = joins way direction platform x

abbrev pub leads : StationRecord → PathWay → ℕ → ℕ → Option ℕ → Bool
leads r way direction platform None = false
leads r way direction platform (Some path) = is_path_of way direction platform (slice_get r.paths path)

-- A train with a direction takes a path of that way between it and the platform. A train without one takes none.
abbrev pub is_way_served : StationRecord → PathWay → Option ℕ → ℕ → Option ℕ → Bool
is_way_served r way None platform path = is_none path
is_way_served r way (Some direction) platform path = leads r way direction platform path

abbrev pub is_dummy : Option Platform → Bool
is_dummy None = false
is_dummy (Some p) = p.dummy

-- On a dummy platform there is no path.
abbrev pub are_paths_allowed : StationRecord → Train → ℕ → Option ℕ → Option ℕ → Bool
are_paths_allowed r t platform path_in path_out =
    if is_dummy (slice_get r.platforms platform) then is_none path_in && is_none path_out
    else is_way_served r In t.from platform path_in && is_way_served r Out t.to platform path_out

-- The minutes of `tuples` are within the train's shifts, so what is left to ask is the platform, the paths and the dwell.
abbrev pub is_allowed : StationRecord → Train → Pattern → Bool
is_allowed r t x =
    list_any (λ p. p == x.platform) t.platforms
    && are_paths_allowed r t x.platform x.path_in x.path_out
    && int_le (x.arrive +ℤ pos t.dwell) x.depart

-- all allowed patterns of the train, ascending; a pattern's number is its place here
unfoldable pub allowed_list : StationRecord → Train → List Pattern
allowed_list r t = filter (is_allowed r t) (tuples r t)
