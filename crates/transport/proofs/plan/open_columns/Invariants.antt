use Rattle.std.proofs.Common.{◌≡◌, ℕ, ◌<◌, ◌≤◌, length, slice_index}
use Rattle.transport.specs.Core.{IsFeasible}
use Rattle.transport.proofs.plan.open_columns.Given as goal

abbrev pub invariant-loop-column : goal.invariant-loop-column
invariant-loop-column g l = record {
  len : length l.columns.items ≡ l.column;
  feasible : IsFeasible (g.C.Cost.table l.cost) l.rows l.columns.items;
  caps : (j : ℕ) → j < length l.columns.items → slice_index l.columns.items j ≤ 20000000000000;
  wanting : (j : ℕ) → j < length l.columns.items → 0 < slice_index l.right j → 10000000000000 ≤ slice_index l.columns.items j;
}
