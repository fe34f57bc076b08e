use Rattle.std.proofs.Common.{◌≤◌, take}
use Rattle.std.specs.Prelude.{All}
use Rattle.tests_programs.proofs.tests.programs.prices.last_among.Given as goal

abbrev pub invariant-loop-cell : goal.invariant-loop-cell
invariant-loop-cell l = record {
  kept : l.before ≤ l.last;
  so_far : All (λ cell. cell.column ≤ l.last) (take l.cell-index l.cells);
}
