use Rattle.std.proofs.Common.{◌≡◌, length}
use Rattle.transport.specs.Spread.{AreMostColumns}
use Rattle.transport.proofs.spread.spread_columns.Given as goal

abbrev pub invariant-loop-column : goal.invariant-loop-column
invariant-loop-column g l = record {
  long : length l.columns.items ≡ l.column;
  most : AreMostColumns (g.C.Cost.table l.cost) l.rows l.columns.items;
}
