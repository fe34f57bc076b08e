use Rattle.std.proofs.Common.{◌≡◌, ◌≤◌, ◌*◌, ◌^◌, take, sum_by}
use Rattle.transport.specs.Core.{cost_in}
use Rattle.transport.proofs.solve.total_cost.Given as goal

abbrev pub invariant-loop-entry : goal.invariant-loop-entry
invariant-loop-entry g l = record {
  value : l.total ≡ cost_in (g.C.Cost.table l.cost) (take l.entry-index l.entries);
  most : l.total ≤ 10 ^ 13 * sum_by (λ e. e.weight) (take l.entry-index l.entries);
}
