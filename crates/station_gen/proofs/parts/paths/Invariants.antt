use Rattle.std.proofs.Common.{◌≡◌, flat_map}
use Rattle.station.specs.Allowed.{numbers}
use Rattle.station_gen.specs.Made.{paths_of}
use Rattle.station_gen.proofs.parts.paths.Given as goal

abbrev pub invariant-loop-direction : goal.invariant-loop-direction
invariant-loop-direction l = l.found.items ≡ flat_map paths_of (numbers l.direction)
