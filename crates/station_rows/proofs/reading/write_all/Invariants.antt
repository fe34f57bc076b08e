use Rattle.std.proofs.Common.{◌≡◌, ℕ, ◌<◌, length, get_or, drop, pos}
use Rattle.station_rows.specs.Points.{weight_at}
use Rattle.station_rows.proofs.reading.write_all.Given as goal

abbrev pub invariant-loop-place : goal.invariant-loop-place
invariant-loop-place l = (k : ℕ) → k < length l.all → get_or l.all k (pos 0) ≡ weight_at (drop l.place l.weights) k
