use Rattle.std.proofs.Common.{append_assoc, length, ◌∙◌, arith}
use Rattle.station_reader.proofs.Rows.{rows_from-step}
use Rattle.station_gen.specs.Made.{is_alike_pair}
use Rattle.station_gen.proofs.Ends.{pairs_all}
use Rattle.station_gen.proofs.pairs.alike_pairs.Goals as goal

pub loop-first-preserved : goal.loop-first-preserved
loop-first-preserved c =
    rw c.in_ok-push_row.ensures
    (rw append_assoc (rw (← rows_from-step (is_alike_pair c.args.paths.now) (length c.args.paths.now) c.loop-first.first c.loop-first-test.true) c.loop-first.invariant))

pub returns : goal.returns
returns c = c.from_vec.ensures ∙ pairs_all c.args.paths.now c.loop-first.first c.loop-first.found.items c.loop-first.invariant (omega arith)
