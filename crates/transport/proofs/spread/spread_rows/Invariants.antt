use Rattle.std.proofs.Common.{◌≡◌, length}
use Rattle.transport.specs.Spread.{AreMostRows}
use Rattle.transport.proofs.spread.spread_rows.Given as goal

abbrev pub invariant-loop-row : goal.invariant-loop-row
invariant-loop-row g l = record {
  long : length l.rows.items ≡ l.row;
  most : AreMostRows (g.C.Cost.table l.cost) l.columns l.rows.items;
}
