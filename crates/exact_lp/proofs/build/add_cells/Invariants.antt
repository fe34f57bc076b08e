use Rattle.std.proofs.Common.{◌≡◌, ◌≤◌, ◌++◌, ◌∷◌, [], List, ℤ, map, take, drop}
use Rattle.exact_lp.specs.Tables.{combination}
use Rattle.exact_lp.proofs.build.add_cells.Given as goal

abbrev pub invariant-loop-row : goal.invariant-loop-row
invariant-loop-row l = record {
  added : l.rows ≡ map (λ (row : List ℤ). row ++ combination row l.spares l.values ∷ []) (take l.row-index l.initial.rows) ++ drop l.row-index l.initial.rows;
  ledger : l.initial.width ≤ l.width;
}
