use Rattle.std.proofs.Common.{◌≡◌, map, drop}
use Rattle.std.specs.Prelude.{find}
use Rattle.leaf_bounds.specs.Row.{row_places}
use Rattle.leaf_bounds.specs.Shown.{numbers_of}
use Rattle.leaf_bounds.specs.Verdict.{pair_fails}
use Rattle.leaf_bounds.proofs.RowLemmas.{AreBelowRest}
use Rattle.leaf_bounds.proofs.pairs.row_fault.Given as goal

-- none of the numbers so far fails, and the place serves all that are left
abbrev pub invariant-loop-number : goal.invariant-loop-number
invariant-loop-number l = record {
  rest : find (pair_fails l.case (numbers_of l.leaf)) (row_places l.allowed.lists (record { first = l.row.first; second = l.row.second }) l.row.number)
      ≡ find (pair_fails l.case (numbers_of l.leaf))
      (map (λ j. record { first = l.row.first; second = l.row.second; i = l.row.number; j = j }) (drop l.number-index l.numbers));
  below : AreBelowRest l.leaf.beta l.row.first l.row.second l.numbers l.number-index l.place;
}
