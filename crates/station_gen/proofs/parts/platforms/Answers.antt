use Rattle.std.proofs.Common.{◌∙◌, arith}
use Rattle.station_gen.specs.Made.{regular}
use Rattle.station_gen.proofs.Steps.{map_step}
use Rattle.station_gen.proofs.Ends.{platforms_all}
use Rattle.station_gen.proofs.parts.platforms.Goals as goal

pub loop-number-preserved : goal.loop-number-preserved
loop-number-preserved c = map_step regular c.loop-number.number _ _ _ c.loop-number.invariant c.in_ok-push.ensures.items c.in_ok-regular.ensures

pub returns : goal.returns
returns c = c.from_vec.ensures ∙ platforms_all c.loop-number.number _ _ _ c.loop-number.invariant (omega arith) c.in_ok-push-2.ensures.items c.in_ok-dummy.ensures
