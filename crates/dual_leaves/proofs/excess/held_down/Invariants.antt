use Rattle.std.proofs.Common.{◌≡◌, ◌≤◌, ◌==◌, ◌+ℤ◌}
use Rattle.dual_leaves.specs.Account.{of_number}
use Rattle.dual_leaves.specs.Sums.{summed}
use Rattle.dual_leaves.proofs.excess.held_down.Given as goal

abbrev pub invariant-loop-key : goal.invariant-loop-key
invariant-loop-key l = record {
  sum : l.total +ℤ summed (λ k. k == l.platform) l.key-iterator ≡ of_number l.uses.entries l.platform;
  ledger : l.initial.width ≤ l.width;
}
