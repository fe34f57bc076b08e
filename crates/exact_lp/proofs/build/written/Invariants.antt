use Rattle.std.proofs.Common.{◌≡◌, ◌≤◌, ◌<◌, ◌+◌, length, pos}
use Rattle.ratio.specs.Cells.{cell_at}
use Rattle.exact_lp.proofs.build.written.Given as goal

abbrev pub invariant-loop-at : goal.invariant-loop-at
invariant-loop-at l = record {
  size : length l.cells.items ≡ l.at + 2;
  costless : cell_at l.cells.items 1 ≡ pos 0;
  own : l.spare < l.at → cell_at l.cells.items (l.spare + 2) ≡ pos 1;
  ledger : l.fn.width ≤ l.width;
}
