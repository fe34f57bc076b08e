use Rattle.std.proofs.Common.{◌≡◌, ◌++◌}
use Rattle.station_rows.specs.Contents.{held_value, train_cells}
use Rattle.station_rows.proofs.cells.push_held_of.Given as goal

abbrev pub invariant-loop-place : goal.invariant-loop-place
invariant-loop-place l =
    l.cells.items ≡ l.initial.cells.items ++ train_cells l.layout l.train (held_value l.case l.layout l.cut.platform l.cut.minute l.train) l.place
