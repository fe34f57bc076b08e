use Rattle.std.proofs.Common.{◌≡◌, ◌++◌, flat_map}
use Rattle.station.specs.Allowed.{numbers}
use Rattle.station_gen.specs.Made.{paths_between}
use Rattle.station_gen.proofs.parts.push_paths_of.Given as goal

abbrev pub invariant-loop-platform : goal.invariant-loop-platform
invariant-loop-platform l = l.found.items ≡ l.initial.found.items ++ flat_map (paths_between l.direction) (numbers l.platform)
