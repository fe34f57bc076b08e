use Rattle.std.proofs.Common.{◌≡◌, drop}
use Rattle.std.specs.Prelude.{find}
use Rattle.std.specs.List.{flat_map}
use Rattle.leaf_bounds.specs.Row.{row_places}
use Rattle.leaf_bounds.specs.Shown.{numbers_of}
use Rattle.leaf_bounds.specs.Verdict.{pair_fails, pair_places}
use Rattle.leaf_bounds.proofs.RowLemmas.{AreBelowRest}
use Rattle.leaf_bounds.proofs.pairs.pair_fault.Given as goal

-- none of the numbers so far fails, and the place serves all that are left
abbrev pub invariant-loop-number : goal.invariant-loop-number
invariant-loop-number l = record {
  rest : find (pair_fails l.case (numbers_of l.leaf)) (pair_places l.allowed.lists (record { first = l.first; second = l.second }))
      ≡ find (pair_fails l.case (numbers_of l.leaf))
      (flat_map (row_places l.allowed.lists (record { first = l.first; second = l.second })) (drop l.number-index l.numbers));
  below : AreBelowRest l.leaf.alpha l.first l.second l.numbers l.number-index l.place;
}
