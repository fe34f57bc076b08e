use Rattle.std.proofs.Common.{◌≡◌, ◌++◌, ◌-◌, ◌+◌, length}
use Rattle.station_reader.proofs.Rows.{row_from}
use Rattle.station_gen.specs.Made.{is_alike_pair}
use Rattle.station_gen.proofs.pairs.push_row.Given as goal

abbrev pub invariant-loop-second : goal.invariant-loop-second
invariant-loop-second l =
    l.found.items ++ row_from (is_alike_pair l.paths) l.first l.second (length l.paths - l.second)
    ≡ l.initial.found.items ++ row_from (is_alike_pair l.paths) l.first (l.first + 1) (length l.paths - (l.first + 1))
