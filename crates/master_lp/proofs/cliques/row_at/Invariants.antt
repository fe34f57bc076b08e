use Rattle.std.proofs.Common.{◌≡◌, ◌+ℤ◌, drop}
use Rattle.exact_lp.specs.Columns.{value_at, weighed_sum}
use Rattle.master_lp.proofs.cliques.row_at.Given as goal

abbrev pub invariant-loop-weight : goal.invariant-loop-weight
invariant-loop-weight l =
    l.total +ℤ weighed_sum (value_at l.row.cells) (drop l.weight-index l.weights) ≡ weighed_sum (value_at l.row.cells) l.weights
