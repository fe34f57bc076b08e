use Rattle.std.proofs.Common.{◌≡◌, ◌-◌}
use Rattle.std.specs.Prelude.{find}
use Rattle.std.specs.List.{flat_map, range_with_len}
use Rattle.pair_prices.specs.Trains.{pairs_with}
use Rattle.leaf_bounds.specs.Places.{key_at}
use Rattle.leaf_bounds.specs.Row.{AreBelowBoth}
use Rattle.leaf_bounds.specs.Shown.{numbers_of}
use Rattle.leaf_bounds.specs.Verdict.{pair_fails, pair_places}
use Rattle.leaf_bounds.proofs.pairs.fault_with.Given as goal

-- none of the pairs so far fails, and the places serve all that are left
abbrev pub invariant-loop-second : goal.invariant-loop-second
invariant-loop-second l = record {
  rest : find (pair_fails l.case (numbers_of l.leaf)) (flat_map (pair_places l.allowed.lists) (pairs_with l.trains l.first))
      ≡ find (pair_fails l.case (numbers_of l.leaf))
      (flat_map (λ t. pair_places l.allowed.lists (record { first = l.first; second = t })) (range_with_len l.second (l.trains - l.second)));
  below : AreBelowBoth l.leaf (key_at l.first l.second 0) l.at;
}
