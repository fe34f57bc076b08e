use Rattle.std.proofs.Common.{◌≡◌, ◌++◌, neg_ℤ}
use Rattle.transport.specs.Coupling.{at}
use Rattle.station_rows.specs.Contents.{train_cells}
use Rattle.station_rows.proofs.cells.push_negated.Given as goal

abbrev pub invariant-loop-place : goal.invariant-loop-place
invariant-loop-place l = l.cells.items ≡ l.initial.cells.items ++ train_cells l.layout l.train (λ place. neg_ℤ (at l.numbers place)) l.place
