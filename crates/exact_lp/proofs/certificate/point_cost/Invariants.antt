use Rattle.std.proofs.Common.{◌≡◌, ◌≤◌, ◌+ℤ◌, drop, pos}
use Rattle.exact_lp.specs.Columns.{weighed_sum}
use Rattle.exact_lp.proofs.certificate.point_cost.Given as goal

abbrev pub invariant-loop-w : goal.invariant-loop-w
invariant-loop-w g l = record {
  value : l.total +ℤ weighed_sum (λ column. pos (g.C.Columns.column_price l.columns column)) (drop l.w-index l.weights) ≡ weighed_sum (λ column. pos (g.C.Columns.column_price l.columns column)) l.weights;
  ledger : l.initial.width ≤ l.width;
}
