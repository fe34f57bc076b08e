use Rattle.std.proofs.Common.{◌≡◌, ◌≤◌, ◌+◌, ◌⊎◌, ◌↔◌, length, take}
use Rattle.std.specs.Prelude.{All, Contains}
use Rattle.exact_lp.specs.declared.row.Row.{Row}
use Rattle.exact_lp.specs.Tables.{IsTableOf}
use Rattle.exact_lp.proofs.engine.search.Given as goal

abbrev pub invariant-loop-round : goal.invariant-loop-round
invariant-loop-round g l = record {
  opening_is : g.K.Cuts.opening_rows l.cuts ≡ g.K.Cuts.opening_rows l.fn.cuts;
  standing_is : (row : Row) → g.K.Cuts.stands l.cuts row ↔ g.K.Cuts.stands l.fn.cuts row;
  prefix : take (length (g.K.Cuts.opening_rows l.fn.cuts)) l.rows ≡ g.K.Cuts.opening_rows l.fn.cuts;
  given : All (λ row. Contains (g.K.Cuts.opening_rows l.fn.cuts) row ⊎ g.K.Cuts.stands l.fn.cuts row) l.rows;
  long : length l.rows ≤ length (g.K.Cuts.opening_rows l.fn.cuts) + l._round;
  table : IsTableOf l.table;
  ledger : l.fn.width ≤ l.width;
}
