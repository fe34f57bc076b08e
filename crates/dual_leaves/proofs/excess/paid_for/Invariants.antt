use Rattle.std.proofs.Common.{◌≡◌, ◌≤◌, ◌==◌, ◌+ℤ◌}
use Rattle.dual_leaves.specs.Account.{on_platform}
use Rattle.dual_leaves.specs.Sums.{summed}
use Rattle.dual_leaves.proofs.excess.paid_for.Given as goal

abbrev pub invariant-loop-key : goal.invariant-loop-key
invariant-loop-key l = record {
  sum : l.total +ℤ summed (λ k. k.platform == l.platform) l.key-iterator ≡ on_platform l.v.entries l.platform;
  ledger : l.initial.width ≤ l.width;
}
