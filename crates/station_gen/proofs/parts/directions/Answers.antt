use Rattle.std.proofs.Common.{◌∙◌, [], slice_index_or, arith}
use Rattle.station_gen.specs.Made.{made_directions}
use Rattle.station_gen.proofs.Names.{name_direction}
use Rattle.station_gen.proofs.Steps.{map_step}
use Rattle.station_gen.proofs.Ends.{named_as, directions_all}
use Rattle.station_gen.proofs.parts.directions.Goals as goal

pub new-requires : goal.new-requires
new-requires c = named_as _ _ (c.as_bytes.ensures.value ∙ c.direction_name.ensures) (name_direction c.loop-direction.direction c.loop-direction-test.true)

pub loop-direction-preserved : goal.loop-direction-preserved
loop-direction-preserved c =
    map_step (λ d. slice_index_or made_directions d []) c.loop-direction.direction _ _ _ c.loop-direction.invariant c.in_ok-push.ensures.items
    (c.in_ok-new.ensures ∙ c.as_bytes.ensures.value ∙ c.direction_name.ensures)

pub returns : goal.returns
returns c = c.from_vec.ensures ∙ c.loop-direction.invariant ∙ directions_all c.loop-direction.direction (omega arith)
