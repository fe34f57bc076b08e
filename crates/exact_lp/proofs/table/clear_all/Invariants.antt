use Rattle.std.proofs.Common.{◌≡◌, ℕ, ◌<◌, ◌≤◌}
use Rattle.exact_lp.specs.Tables.{Clears, row_at}
use Rattle.exact_lp.proofs.table.clear_all.Given as goal

abbrev pub invariant-loop-row : goal.invariant-loop-row
invariant-loop-row l = record {
  cleared : (k : ℕ) → k < l.row-index → Clears l.pivot l.at (row_at l.initial.rows k) (row_at l.rows k);
  waiting : (k : ℕ) → l.row-index ≤ k → row_at l.rows k ≡ row_at l.initial.rows k;
  ledger : l.initial.width ≤ l.width;
}
