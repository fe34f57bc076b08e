use Rattle.std.proofs.Common.{◌≤◌, take}
use Rattle.exact_lp.specs.Programs.{paid_by_rows, valued_leasts}
use Rattle.dual_leaves.specs.Account.{totals_of, IsAccount}
use Rattle.dual_leaves.proofs.read.read_rows.Given as goal

abbrev pub invariant-loop-place : goal.invariant-loop-place
invariant-loop-place l = record {
  account : IsAccount l.case l.layout (paid_by_rows (take l.place l.rows) (take l.place l.values)) (valued_leasts (take l.place l.rows) (take l.place l.values)) (totals_of l.account);
  ledger : l.initial.width ≤ l.width;
}
