use Rattle.std.proofs.Common.{◌≡◌, ◌+◌, ◌≤◌, drop, cond}
use Rattle.station.specs.Counted.{total}
use Rattle.station.specs.Allowed.{joins}
use Rattle.station_reader.proofs.patterns.joining_count.Given as goal

abbrev pub invariant-loop-path : goal.invariant-loop-path
invariant-loop-path l =
    (l.count + total (λ x. cond (joins l.way l.direction l.platform x) 1 0) (drop l.path-index l.paths) ≡ total (λ x. cond (joins l.way l.direction l.platform x) 1 0) l.paths)
    × (l.count ≤ l.path-index)
