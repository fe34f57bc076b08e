use Rattle.std.proofs.Common.{◌≤◌}
use Rattle.dual_leaves.proofs.Payments.{AreFrontPaid}
use Rattle.dual_leaves.proofs.excess.pay_excess.Given as goal

abbrev pub invariant-loop-platform : goal.invariant-loop-platform
invariant-loop-platform l = record {
  paid : AreFrontPaid l.case l.scale l.uses.entries l.platform l.initial.v.entries l.v.entries;
  ledger : l.initial.width ≤ l.width;
}
