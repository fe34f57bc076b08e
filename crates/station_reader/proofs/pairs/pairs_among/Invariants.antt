use Rattle.std.proofs.Common.{◌≡◌, ◌++◌, ◌-◌}
use Rattle.station_reader.specs.Marked.{is_marked}
use Rattle.station_reader.proofs.Rows.{rows_from}
use Rattle.station_reader.proofs.pairs.pairs_among.Given as goal

abbrev pub invariant-loop-first : goal.invariant-loop-first
invariant-loop-first l = l.found.items ++ rows_from (is_marked l.table) l.count l.first (l.count - l.first) ≡ rows_from (is_marked l.table) l.count 0 l.count
