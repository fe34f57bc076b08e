use Rattle.std.proofs.Common.{◌≡◌, [], map, slice_index_or}
use Rattle.station.specs.Allowed.{numbers}
use Rattle.station_gen.specs.Made.{made_directions}
use Rattle.station_gen.proofs.parts.directions.Given as goal

abbrev pub invariant-loop-direction : goal.invariant-loop-direction
invariant-loop-direction l = l.found.items ≡ map (λ d. slice_index_or made_directions d []) (numbers l.direction)
