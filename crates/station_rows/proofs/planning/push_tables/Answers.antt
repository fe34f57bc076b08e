use Rattle.std.proofs.Common.{◌+◌, List, subst, sym}
use Rattle.station_rows.specs.declared.fraction.PairTable.{PairTable}
use Rattle.station_rows.specs.Plans.{AreTablesTo}
use Rattle.station_rows.proofs.Tables.{one_tabled}
use Rattle.station_rows.proofs.planning.push_tables.Goals as goal

pub loop-second-preserved : goal.loop-second-preserved
loop-second-preserved c =
    let lists = c.args.allowed.now.lists in
    let clauses = c.in_ok-table.ensures in
    let P : List PairTable → Type 0 = λ tables. AreTablesTo c.args.case.now c.args.allowed.now.lists c.args.weights.now c.args.first (c.loop-second.second + 1) tables in
    subst P (sym c.in_ok-push.ensures.items)
    (one_tabled c.args.case.now lists c.args.weights.now c.args.first c.loop-second.second c.loop-second.tables.items c.in_ok-table.table
    clauses.is_first clauses.is_second clauses.least c.loop-second.invariant)
