use Rattle.std.proofs.Common.{◌≡◌, ◌≤◌}
use Rattle.exact_lp.specs.Tables.{IsTableOf}
use Rattle.exact_lp.proofs.round.settle.Given as goal

abbrev pub invariant-loop-made : goal.invariant-loop-made
invariant-loop-made g l = record {
  rows : l.rows ≡ l.initial.rows;
  table : IsTableOf l.table;
  ledger : l.initial.width ≤ l.width;
}
