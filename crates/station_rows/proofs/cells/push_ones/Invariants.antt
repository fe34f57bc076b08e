use Rattle.std.proofs.Common.{◌≡◌, ◌++◌, pos}
use Rattle.station_rows.specs.Contents.{train_cells}
use Rattle.station_rows.proofs.cells.push_ones.Given as goal

abbrev pub invariant-loop-place : goal.invariant-loop-place
invariant-loop-place l = l.cells.items ≡ l.initial.cells.items ++ train_cells l.layout l.train (λ place. pos 1) l.place
