use Rattle.std.proofs.Common.{sym, ◌∙◌}
use Rattle.serde_json.specs.View.{view}
use Rattle.station_reader.proofs.Firsts.{each-step}
use Rattle.station_reader.proofs.walk.first_fault.Goals as goal

pub loop-number-preserved : goal.loop-number-preserved
loop-number-preserved g c = c.loop-number.invariant ∙ each-step _ view _ _ c.index-entries-number.result c.loop-number-test.true c.index-entries-number.is (sym c.in_default.is ∙ c.fault.ensures)
