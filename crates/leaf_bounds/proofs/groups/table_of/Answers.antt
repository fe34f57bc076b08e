use Rattle.leaf_bounds.proofs.GroupLemmas.{group_table}
use Rattle.leaf_bounds.proofs.groups.table_of.Goals as goal

pub invariant_of-result : goal.invariant_of-result
invariant_of-result c = record {
  kept = group_table c.args.leaf.now c.args.first c.args.second _ _ c.requires.order c.in_ok-numbers_of_pair.ensures c.in_ok-numbers_of_pair-2.ensures;
}
