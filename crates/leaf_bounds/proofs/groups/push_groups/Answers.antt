use Rattle.std.proofs.Common.{◌+◌, arith}
use Rattle.leaf_bounds.specs.Places.{key_at}
use Rattle.leaf_bounds.specs.Sharing.{group_of, is_some_group, most_trains}
use Rattle.leaf_bounds.proofs.GroupLemmas.{groups_more, groups_ended, most_is}
use Rattle.leaf_bounds.proofs.RowLemmas.{both_after}
use Rattle.leaf_bounds.proofs.groups.push_groups.Goals as goal

pub loop-second-preserved : goal.loop-second-preserved
loop-second-preserved c = record {
  rest = groups_more is_some_group (group_of c.args.leaf.now) (λ t. record { first = c.args.first; second = t }) c.loop-second.second most_trains _ _ _
      (omega (arith, c.loop-second-test.true, most_is)) c.loop-second.invariant.rest c.in_ok-push_group.ensures;
  below = both_after c.args.leaf.now (key_at c.args.first c.loop-second.second 0) (key_at c.args.first (c.loop-second.second + 1) 0) c.places_from-at.result
      (omega arith) c.places_from-at.ensures;
}

pub returns : goal.returns
returns c =
    groups_ended is_some_group (group_of c.args.leaf.now) (λ t. record { first = c.args.first; second = t }) c.loop-second.second most_trains _ _
    (omega (arith, c.loop-second-test.false, most_is)) c.loop-second.invariant.rest
