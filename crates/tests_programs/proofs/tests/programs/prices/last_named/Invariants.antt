use Rattle.std.proofs.Common.{◌≤◌, take}
use Rattle.std.specs.Prelude.{All}
use Rattle.tests_programs.proofs.tests.programs.prices.last_named.Given as goal

abbrev pub invariant-loop-row : goal.invariant-loop-row
invariant-loop-row l = All (λ row. All (λ cell. cell.column ≤ l.last) row.cells) (take l.row-index l.rows)
