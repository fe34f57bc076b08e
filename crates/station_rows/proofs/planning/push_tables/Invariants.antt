use Rattle.station_rows.specs.Plans.{AreTablesTo}
use Rattle.station_rows.proofs.planning.push_tables.Given as goal

abbrev pub invariant-loop-second : goal.invariant-loop-second
invariant-loop-second l = AreTablesTo l.case l.allowed.lists l.weights l.first l.second l.tables.items
