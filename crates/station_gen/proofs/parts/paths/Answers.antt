use Rattle.std.proofs.Common.{◌∙◌, [], arith}
use Rattle.station_gen.specs.Made.{paths_of}
use Rattle.station_gen.proofs.Steps.{flat_map_step}
use Rattle.station_gen.proofs.Ends.{paths_all}
use Rattle.station_gen.proofs.parts.paths.Goals as goal

pub loop-direction-preserved : goal.loop-direction-preserved
loop-direction-preserved c = flat_map_step paths_of c.loop-direction.direction [] _ _ c.loop-direction.invariant c.in_ok-push_paths_of.ensures

pub returns : goal.returns
returns c = c.from_vec.ensures ∙ paths_all c.loop-direction.direction _ c.loop-direction.invariant (omega arith)
