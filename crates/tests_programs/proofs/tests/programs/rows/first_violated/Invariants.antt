use Rattle.std.proofs.Common.{◌≤◌, take}
use Rattle.std.specs.Prelude.{All}
use Rattle.exact_lp.specs.Programs.{Holds}
use Rattle.tests_programs.proofs.tests.programs.rows.first_violated.Given as goal

abbrev pub invariant-loop-row : goal.invariant-loop-row
invariant-loop-row l = record {
  so_far : All (λ row. Holds row l.point) (take l.row-index l.rows);
  ledger : l.initial.width ≤ l.width;
}
