use Rattle.std.proofs.Common.{◌≡◌, take, false, ◌≤ℤ◌}
use Rattle.std.specs.Prelude.{All}
use Rattle.exact_lp.specs.Sources.{opening_sum}
use Rattle.tests_programs.proofs.tests.programs.rows.all_met.Given as goal

abbrev pub invariant-loop-row : goal.invariant-loop-row
invariant-loop-row l = record {
  above : All (λ row. row.equal ≡ false) (take l.row-index l.rows);
  met : All (λ row. row.least ≤ℤ opening_sum row.cells l.opening l.own) (take l.row-index l.rows);
}
