use Rattle.std.proofs.Common.{◌≡◌, ◌≤◌, ◌+ℤ◌, drop}
use Rattle.exact_lp.specs.Columns.{value_at, weighed_sum}
use Rattle.exact_lp.proofs.certificate.weighed_values.Given as goal

abbrev pub invariant-loop-w : goal.invariant-loop-w
invariant-loop-w l = record {
  value : l.total +ℤ weighed_sum (value_at l.row.cells) (drop l.w-index l.weights) ≡ weighed_sum (value_at l.row.cells) l.weights;
  ledger : l.initial.width ≤ l.width;
}
