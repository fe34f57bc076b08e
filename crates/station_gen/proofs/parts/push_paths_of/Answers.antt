use Rattle.std.proofs.Common.{arith}
use Rattle.station_gen.specs.Made.{paths_between}
use Rattle.station_gen.proofs.Steps.{flat_map_step}
use Rattle.station_gen.proofs.Ends.{paths_of_all}
use Rattle.station_gen.proofs.parts.push_paths_of.Goals as goal

pub loop-platform-preserved : goal.loop-platform-preserved
loop-platform-preserved c = flat_map_step (paths_between c.args.direction) c.loop-platform.platform _ _ _ c.loop-platform.invariant c.in_ok-push_paths_between.ensures

pub returns : goal.returns
returns c = paths_of_all c.args.direction c.loop-platform.platform _ _ c.loop-platform.invariant (omega arith)
