use Rattle.std.proofs.Common.{◌≡◌, ◌≤◌}
use Rattle.exact_lp.specs.Tables.{IsTableOf}
use Rattle.exact_lp.proofs.round.plan_up.Given as goal

abbrev pub invariant-loop-entered : goal.invariant-loop-entered
invariant-loop-entered g l = record {
  rows : l.rows ≡ l.initial.rows;
  table : IsTableOf l.table;
  ledger : l.initial.width ≤ l.width;
}
