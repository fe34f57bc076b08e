use Rattle.std.proofs.Common.{◌≡◌, ◌++◌, ◌∷◌, [], List, ℤ, map, pos, take, drop}
use Rattle.exact_lp.proofs.table.append_each.Given as goal

abbrev pub invariant-loop-row : goal.invariant-loop-row
invariant-loop-row l = l.rows ≡ map (λ (row : List ℤ). row ++ pos 0 ∷ []) (take l.row-index l.initial.rows) ++ drop l.row-index l.initial.rows
