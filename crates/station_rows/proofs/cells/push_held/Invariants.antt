use Rattle.std.proofs.Common.{◌≡◌, ◌++◌}
use Rattle.station_rows.specs.Contents.{held_cells}
use Rattle.station_rows.proofs.cells.push_held.Given as goal

abbrev pub invariant-loop-train : goal.invariant-loop-train
invariant-loop-train l = l.cells.items ≡ l.initial.cells.items ++ held_cells l.case l.layout l.cut.platform l.cut.minute l.train
