use Rattle.std.proofs.Common.{◌≤◌}
use Rattle.exact_lp.specs.Tables.{IsTableOf}
use Rattle.exact_lp.proofs.build.add_opening.Given as goal

abbrev pub invariant-loop-at : goal.invariant-loop-at
invariant-loop-at l = record {
  table : IsTableOf l.table;
  ledger : l.initial.width ≤ l.width;
}
