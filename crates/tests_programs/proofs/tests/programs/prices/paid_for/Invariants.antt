use Rattle.std.proofs.Common.{◌≡◌, ◌≤◌, ◌+ℤ◌, drop}
use Rattle.exact_lp.specs.Programs.{paid_by_rows}
use Rattle.tests_programs.proofs.tests.programs.prices.paid_for.Given as goal

abbrev pub invariant-loop-i : goal.invariant-loop-i
invariant-loop-i l = record {
  value : l.total +ℤ paid_by_rows (drop l.i l.rows) (drop l.i l.values) l.column ≡ paid_by_rows l.rows l.values l.column;
  ledger : l.initial.width ≤ l.width;
}
