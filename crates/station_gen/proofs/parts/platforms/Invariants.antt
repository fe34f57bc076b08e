use Rattle.std.proofs.Common.{◌≡◌, map}
use Rattle.station.specs.Allowed.{numbers}
use Rattle.station_gen.specs.Made.{regular}
use Rattle.station_gen.proofs.parts.platforms.Given as goal

abbrev pub invariant-loop-number : goal.invariant-loop-number
invariant-loop-number l = l.found.items ≡ map regular (numbers l.number)
