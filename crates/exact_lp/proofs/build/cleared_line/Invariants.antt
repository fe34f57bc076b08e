use Rattle.std.proofs.Common.{◌≤◌, length}
use Rattle.exact_lp.specs.Tables.{IsNewRow}
use Rattle.exact_lp.proofs.build.cleared_line.Given as goal

abbrev pub invariant-loop-at : goal.invariant-loop-at
invariant-loop-at l = record {
  cleared : IsNewRow l.table.basis.items (length l.table.variables.items) l.spare l.at l.line;
  ledger : l.fn.width ≤ l.width;
}
