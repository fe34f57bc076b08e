use Rattle.std.proofs.Common.{◌≤◌}
use Rattle.dual_leaves.specs.Shares.{AreSharesAdded}
use Rattle.dual_leaves.proofs.pairs.read_side.Given as goal

abbrev pub invariant-loop-place : goal.invariant-loop-place
invariant-loop-place l = record {
  shares : AreSharesAdded l.layout l.row l.at l.fn.side l.value l.place l.initial.sums.entries l.sums.entries;
  ledger : l.initial.width ≤ l.width;
}
