use Rattle.std.proofs.Common.{◌≡◌, ◌++◌, ◌-◌, map}
use Rattle.std.specs.Prelude.{filter}
use Rattle.std.specs.List.{range_with_len}
use Rattle.pair_prices.specs.Trains.{pairs_with}
use Rattle.leaf_bounds.specs.Group.{group_in}
use Rattle.leaf_bounds.specs.Places.{key_at}
use Rattle.leaf_bounds.specs.Row.{AreBelowBoth}
use Rattle.leaf_bounds.specs.Sharing.{group_of, is_some_group, most_trains}
use Rattle.leaf_bounds.proofs.groups.push_groups.Given as goal

-- what is added so far, and what is left
abbrev pub invariant-loop-second : goal.invariant-loop-second
invariant-loop-second l = record {
  rest : map group_in l.initial.groups.items ++ filter is_some_group (map (group_of l.leaf) (pairs_with most_trains l.first))
      ≡ map group_in l.groups.items
      ++ filter is_some_group (map (group_of l.leaf) (map (λ t. record { first = l.first; second = t }) (range_with_len l.second (most_trains - l.second))));
  below : AreBelowBoth l.leaf (key_at l.first l.second 0) l.at;
}
