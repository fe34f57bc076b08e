use Rattle.leaf_bounds.proofs.SharingLemmas.{carried_more, carried_end}
use Rattle.leaf_bounds.proofs.sharing.all_groups.Goals as goal

pub loop-node-preserved : goal.loop-node-preserved
loop-node-preserved c =
    carried_more c.args.nodes.now c.loop-node.node-index c.node-item.result _ _ c.loop-node-test.true c.node-item.is c.loop-node.invariant
    c.in_ok-push_groups_at.ensures

pub returns : goal.returns
returns c = carried_end c.args.nodes.now c.loop-node.node-index _ c.loop-node-test.false c.loop-node.invariant
