use Rattle.std.proofs.Common.{◌∙◌, ap, arith, length}
use Rattle.station_rows.proofs.Tables.{all_tabled}
use Rattle.station_rows.proofs.planning.tables_of.Goals as goal

pub returns : goal.returns
returns c =
    let done = c.loop-first-test.false in
    let count = c.trains-trains.ensures.value ∙ ap length c.book.ensures in
    all_tabled c.args.case.now c.args.allowed.now.lists c.args.weights.now c.loop-first.first c.loop-first.tables.items (omega (arith, done, count)) c.loop-first.invariant
