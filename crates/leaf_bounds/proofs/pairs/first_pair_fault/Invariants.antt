use Rattle.std.proofs.Common.{◌≡◌, ◌-◌}
use Rattle.std.specs.Prelude.{find}
use Rattle.std.specs.List.{flat_map, range_with_len}
use Rattle.pair_prices.specs.Trains.{pairs_with}
use Rattle.leaf_bounds.specs.Places.{key_at}
use Rattle.leaf_bounds.specs.Row.{AreBelowBoth}
use Rattle.leaf_bounds.specs.Shown.{numbers_of}
use Rattle.leaf_bounds.specs.Verdict.{first_pair, pair_fails, pair_places}
use Rattle.leaf_bounds.proofs.pairs.first_pair_fault.Given as goal

-- no pair of the trains so far fails, and the places serve all that are left
abbrev pub invariant-loop-first : goal.invariant-loop-first
invariant-loop-first l = record {
  rest : first_pair l.case l.allowed.lists (numbers_of l.leaf)
      ≡ find (pair_fails l.case (numbers_of l.leaf))
      (flat_map (λ s. flat_map (pair_places l.allowed.lists) (pairs_with l.trains s)) (range_with_len l.first (l.trains - l.first)));
  below : AreBelowBoth l.leaf (key_at l.first 0 0) l.at;
}
