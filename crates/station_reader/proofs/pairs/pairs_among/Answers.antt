use Rattle.std.proofs.Common.{append_assoc}
use Rattle.station_reader.specs.Marked.{is_marked}
use Rattle.station_reader.proofs.Rows.{rows_from-step}
use Rattle.station_reader.proofs.pairs.pairs_among.Goals as goal

pub loop-first-preserved : goal.loop-first-preserved
loop-first-preserved c =
    rw c.in_ok-push_row.ensures
    (rw append_assoc (rw (← rows_from-step (is_marked c.args.table.now) c.args.count c.loop-first.first c.loop-first-test.true) c.loop-first.invariant))
