use Rattle.std.proofs.Common.{◌≡◌, ◌≤◌, ◌+ℤ◌, drop}
use Rattle.exact_lp.specs.Tables.{combination}
use Rattle.exact_lp.proofs.build.combined.Given as goal

abbrev pub invariant-loop-at : goal.invariant-loop-at
invariant-loop-at l = record {
  so_far : l.total +ℤ combination l.line (drop l.at l.spares) (drop l.at l.values) ≡ combination l.line l.spares l.values;
  ledger : l.initial.width ≤ l.width;
}
