use Rattle.std.proofs.Common.{List, map, take, subst, sym, ◌+◌}
use Rattle.leaf_bounds.specs.declared.shared.SharedNode.{SharedNode}
use Rattle.leaf_bounds.specs.Group.{group_in}
use Rattle.leaf_bounds.specs.Sharing.{AreSharedNodesOf}
use Rattle.leaf_bounds.proofs.SharingLemmas.{nodes_more}
use Rattle.leaf_bounds.proofs.shared_leaf.shared_nodes.Goals as goal

pub loop-node-preserved : goal.loop-node-preserved
loop-node-preserved c =
    subst (λ (ns : List SharedNode). AreSharedNodesOf (map group_in c.args.tables.now) (take (c.loop-node.node-index + 1) c.args.nodes.now) ns)
    (sym c.in_ok-push.ensures.items)
    (nodes_more (map group_in c.args.tables.now) c.args.nodes.now c.loop-node.node-index c.node-item.result c.loop-node.shared.items c.in_ok-other.other
    c.loop-node-test.true c.node-item.is c.loop-node.invariant c.in_ok-other.ensures)
