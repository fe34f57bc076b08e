use Rattle.std.proofs.Common.{append_assoc, length}
use Rattle.station_reader.proofs.Rows.{row_from-step}
use Rattle.station_gen.specs.Made.{is_alike_pair}
use Rattle.station_gen.proofs.pairs.push_row.Goals as goal

pub loop-second-preserved : goal.loop-second-preserved
loop-second-preserved c =
    rw c.in_ok-push_if_alike.ensures
    (rw append_assoc (rw (← row_from-step (is_alike_pair c.args.paths.now) c.args.first c.loop-second.second (length c.args.paths.now) c.loop-second-test.true) c.loop-second.invariant))
