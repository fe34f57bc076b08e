use Rattle.std.proofs.Common.{append_assoc}
use Rattle.station_reader.specs.Marked.{is_marked}
use Rattle.station_reader.proofs.Rows.{row_from-step}
use Rattle.station_reader.proofs.pairs.push_row.Goals as goal

pub loop-second-preserved : goal.loop-second-preserved
loop-second-preserved c =
    rw c.in_ok-push_if_marked.ensures
    (rw append_assoc (rw (← row_from-step (is_marked c.args.table.now) c.args.first c.loop-second.second c.args.count c.loop-second-test.true) c.loop-second.invariant))
