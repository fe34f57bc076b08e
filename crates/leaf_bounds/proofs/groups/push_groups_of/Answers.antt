use Rattle.std.proofs.Common.{◌+◌, ◌++◌, ap, ◌∙◌, arith, map}
use Rattle.std.specs.Prelude.{filter}
use Rattle.pair_prices.specs.Trains.{pairs_with}
use Rattle.patterns.proofs.Steps.{appended_more, flat_map_numbers_more}
use Rattle.leaf_bounds.specs.Group.{group_in}
use Rattle.leaf_bounds.specs.Places.{key_at}
use Rattle.leaf_bounds.specs.Sharing.{group_of, is_some_group, most_trains}
use Rattle.leaf_bounds.proofs.GroupLemmas.{groups_whole, most_is, nothing_added}
use Rattle.leaf_bounds.proofs.RowLemmas.{both_after, both_at_first}
use Rattle.leaf_bounds.proofs.groups.push_groups_of.Goals as goal

pub loop-first-init : goal.loop-first-init
loop-first-init c = record {
  found = nothing_added (map group_in c.args.groups.now.items);
  below = both_at_first c.args.leaf.now (key_at 0 0 0);
}

pub loop-first-preserved : goal.loop-first-preserved
loop-first-preserved c = record {
  found = appended_more _ _ _ _ _ _ c.loop-first.invariant.found c.in_ok-push_groups.ensures
      (flat_map_numbers_more (λ s. filter is_some_group (map (group_of c.args.leaf.now) (pairs_with most_trains s))) c.loop-first.first);
  below = both_after c.args.leaf.now (key_at c.loop-first.first 0 0) (key_at (c.loop-first.first + 1) 0 0) c.places_from-at.result
      (omega arith) c.places_from-at.ensures;
}

pub returns : goal.returns
returns c =
    c.loop-first.invariant.found
    ∙ ap (λ gs. map group_in c.args.groups.now.items ++ gs)
    (groups_whole c.args.leaf.now c.loop-first.first (omega (arith, c.loop-first-test.false, c.loop-first.auto.first-end, most_is)))
