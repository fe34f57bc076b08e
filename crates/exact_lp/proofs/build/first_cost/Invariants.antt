use Rattle.std.proofs.Common.{◌≤◌}
use Rattle.exact_lp.specs.Tables.{IsPriceRow}
use Rattle.exact_lp.proofs.build.first_cost.Given as goal

abbrev pub invariant-loop-column : goal.invariant-loop-column
invariant-loop-column g l = record {
  prices : IsPriceRow l.column-index l.cells.items;
  ledger : l.fn.width ≤ l.width;
}
