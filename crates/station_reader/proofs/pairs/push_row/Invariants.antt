use Rattle.std.proofs.Common.{◌≡◌, ◌++◌, ◌-◌, ◌+◌}
use Rattle.station_reader.specs.Marked.{is_marked}
use Rattle.station_reader.proofs.Rows.{row_from}
use Rattle.station_reader.proofs.pairs.push_row.Given as goal

abbrev pub invariant-loop-second : goal.invariant-loop-second
invariant-loop-second l =
    l.found.items ++ row_from (is_marked l.table) l.first l.second (l.count - l.second) ≡ l.initial.found.items ++ row_from (is_marked l.table) l.first (l.first + 1) (l.count - (l.first + 1))
