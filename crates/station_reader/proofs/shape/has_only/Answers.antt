use Rattle.std.proofs.Common.{sym, ◌∙◌, ap}
use Rattle.serde_json.specs.View.{view}
use Rattle.station_reader.proofs.Listed.{are_listed, has_only-no_object, has_only-object}
use Rattle.station_reader.proofs.shape.has_only.Goals as goal

pub returns-in_default : goal.returns-in_default
returns-in_default c = has_only-no_object c.args.members.now (view c.args.value.now) (rw c.in_default.is at c.as_object.ensures)

pub loop-key-init : goal.loop-key-init
loop-key-init c =
    has_only-object c.args.members.now (view c.args.value.now) c.in-Some.object.now.entries c.in-Some.ensures
    ∙ sym (ap (are_listed c.args.members.now) (c.into_iter-key-iterator.ensures.into_iter_gives ∙ c.keys-key-items.ensures.rest))
