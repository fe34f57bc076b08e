use Rattle.std.proofs.Common.{◌≡◌, ◌++◌, ◌-◌, length}
use Rattle.station_reader.proofs.Rows.{rows_from}
use Rattle.station_gen.specs.Made.{is_alike_pair}
use Rattle.station_gen.proofs.pairs.alike_pairs.Given as goal

abbrev pub invariant-loop-first : goal.invariant-loop-first
invariant-loop-first l =
    l.found.items ++ rows_from (is_alike_pair l.paths) (length l.paths) l.first (length l.paths - l.first)
    ≡ rows_from (is_alike_pair l.paths) (length l.paths) 0 (length l.paths)
