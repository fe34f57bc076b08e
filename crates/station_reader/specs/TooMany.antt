-- The first train with more patterns than it may have. For private clauses: `proofs/TooMany.antt` shows that this is the class of the list of allowed patterns.
use Rattle.std.specs.Prelude.{ℕ, List, Option, nat_le}
use Rattle.station.specs.declared.part.Platform.{Platform}
use Rattle.station.specs.declared.part.Path.{Path}
use Rattle.station.specs.declared.part.Train.{Train}
use Rattle.station.specs.Counted.{counted}
use Rattle.station_reader.specs.declared.place.Spot.{Spot}
use Rattle.station_reader.specs.declared.place.Spot.TheVariants.{Entry}
use Rattle.station_reader.specs.declared.member.Member.TheVariants.{Trains}
use Rattle.station_reader.specs.First.{unless}

-- a train with more patterns than it may have
abbrev pub too_many : List Path → List Platform → ℕ → Train → Option Spot
too_many paths platforms i t = unless (nat_le (counted paths t 0 platforms) 4096) (Entry Trains i)
