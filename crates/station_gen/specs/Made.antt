-- The generated station of a number and a count of trains.
use Rattle.std.specs.Prelude.{ℕ, zero, suc, ◌+◌, ◌*◌, ◌/◌, ◌%◌, ◌^◌, List, [], ◌∷◌, ◌++◌, map, filter, flat_map, length, Bool, true, false, ◌&&◌, ◌==◌, Option, Some, None, slice_get, slice_index_or, codes, decimal, pos}
use Rattle.station.specs.declared.part.Platform.{Platform}
use Rattle.station.specs.declared.part.Path.{Path}
use Rattle.station.specs.declared.part.PathWay.{PathWay}
use Rattle.station.specs.declared.part.PathWay.TheVariants.{In, Out}
use Rattle.station.specs.declared.part.PathPair.{PathPair}
use Rattle.station.specs.declared.part.Train.{Train}
use Rattle.station.specs.Allowed.{StationRecord, numbers, same_way}
use Rattle.station_reader.specs.Reading.{pairs_below}

-- ---- draws

-- the state after a draw
unfoldable pub next : ℕ → ℕ
next state = (state * 6364136223846793005 + 1442695040888963407) % 2 ^ 64

-- what a draw below n gives, by the state after it: division without its rest, and then the rest of a division by n
unfoldable pub drawn : ℕ → ℕ → ℕ
drawn state n = (state / 2 ^ 33) % n

-- the state after so many draws, at first the number
unfoldable pub state_after : ℕ → ℕ → ℕ
state_after number zero = number
state_after number (suc draws) = next (state_after number draws)

-- ---- the parts that are the same in each generated station

unfoldable pub made_directions : List (List ℕ)
made_directions = codes "N" ∷ codes "E" ∷ codes "S" ∷ codes "W" ∷ []

-- the platforms `1` to `5`, from number 0
unfoldable pub regular : ℕ → Platform
regular number = record { name = decimal (number + 1); dummy = false; price = 1000; headway = 2; buffer = 0 }

unfoldable pub dummy : Platform
dummy = record { name = codes "D"; dummy = true; price = 100_000; headway = 0; buffer = 0 }

unfoldable pub made_platforms : List Platform
made_platforms = map regular (numbers 5) ++ dummy ∷ []

abbrev pub letter : PathWay → List ℕ
letter In = codes "I"
letter Out = codes "O"

-- the direction's name, `I` or `O`, and the platform's name
abbrev pub path_name : ℕ → ℕ → PathWay → List ℕ
path_name direction platform way = slice_index_or made_directions direction [] ++ letter way ++ decimal (platform + 1)

unfoldable pub made_path : ℕ → ℕ → PathWay → Path
made_path direction platform way = record {
  name = path_name direction platform way;
  direction = direction;
  platform = platform;
  way = way;
  minutes = 2;
  price = 0;
}

-- between a direction and a regular platform, in and then out
abbrev pub paths_between : ℕ → ℕ → List Path
paths_between direction platform = made_path direction platform In ∷ made_path direction platform Out ∷ []

-- for each regular platform, in order
unfoldable pub paths_of : ℕ → List Path
paths_of direction = flat_map (paths_between direction) (numbers 5)

-- for each direction, in order
unfoldable pub made_paths : List Path
made_paths = flat_map paths_of (numbers 4)

-- the same direction and the same way
abbrev pub are_alike : Option Path → Option Path → Bool
are_alike None y = false
are_alike (Some x) None = false
are_alike (Some x) (Some y) = x.direction == y.direction && same_way x.way y.way

abbrev pub is_alike_pair : List Path → PathPair → Bool
is_alike_pair paths x = are_alike (slice_get paths x.first) (slice_get paths x.second)

-- every two paths of the same direction and the same way, the first below the second, ascending
unfoldable pub alike_pairs : List Path → List PathPair
alike_pairs paths = filter (is_alike_pair paths) (pairs_below (length paths))

-- ---- the trains

-- train k, whose five draws begin at the state
unfoldable pub made_train : ℕ → ℕ → Train
made_train state k =
    let first = next state in
    let second = next first in
    let third = next second in
    let fourth = next third in
    let fifth = next fourth in
    let arrive = 60 + 7 * k + drawn third 5 in
    record {
      name = codes "T" ++ decimal k;
      «from» = Some (drawn first 4);
      to = Some (drawn second 4);
      arrive = pos arrive;
      depart = pos (arrive + 4 + drawn fourth 8);
      dwell = 3;
      arrive_early = 1;
      arrive_late = 1;
      depart_early = 1;
      depart_late = 1;
      platforms = numbers 6;
      prefer = drawn fifth 5 ∷ [];
      off_price = 50;
      shift_price = 10;
      surcharges = [];
    }

-- five draws of each train before it come first
unfoldable pub made_trains : ℕ → ℕ → List Train
made_trains number trains = map (λ k. made_train (state_after number (5 * k)) k) (numbers trains)

-- ---- the station

unfoldable pub made_station : ℕ → ℕ → StationRecord
made_station number trains = record {
  threshold = 1;
  conflict_price = 20;
  buffer_price = 0;
  directions = made_directions;
  platforms = made_platforms;
  paths = made_paths;
  incompatible = alike_pairs made_paths;
  trains = made_trains number trains;
}
