use Rattle.std.proofs.Common.{◌≡◌, ◌++◌, map}
use Rattle.std.specs.Prelude.{filter, flat_map}
use Rattle.station.specs.Allowed.{numbers}
use Rattle.pair_prices.specs.Trains.{pairs_with}
use Rattle.leaf_bounds.specs.Group.{group_in}
use Rattle.leaf_bounds.specs.Places.{key_at}
use Rattle.leaf_bounds.specs.Row.{AreBelowBoth}
use Rattle.leaf_bounds.specs.Sharing.{group_of, is_some_group, most_trains}
use Rattle.leaf_bounds.proofs.groups.push_groups_of.Given as goal

abbrev pub invariant-loop-first : goal.invariant-loop-first
invariant-loop-first l = record {
  found : map group_in l.groups.items
      ≡ map group_in l.initial.groups.items ++ flat_map (λ s. filter is_some_group (map (group_of l.leaf) (pairs_with most_trains s))) (numbers l.first);
  below : AreBelowBoth l.leaf (key_at l.first 0 0) l.at;
}
