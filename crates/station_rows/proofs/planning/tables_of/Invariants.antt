use Rattle.std.proofs.Common.{◌+◌}
use Rattle.station_rows.specs.Plans.{AreTablesTo}
use Rattle.station_rows.proofs.planning.tables_of.Given as goal

abbrev pub invariant-loop-first : goal.invariant-loop-first
invariant-loop-first l = AreTablesTo l.case l.allowed.lists l.weights l.first (l.first + 1) l.tables.items
