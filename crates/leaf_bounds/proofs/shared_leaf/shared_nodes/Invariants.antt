use Rattle.std.proofs.Common.{map, take}
use Rattle.leaf_bounds.specs.Group.{group_in}
use Rattle.leaf_bounds.specs.Sharing.{AreSharedNodesOf}
use Rattle.leaf_bounds.proofs.shared_leaf.shared_nodes.Given as goal

abbrev pub invariant-loop-node : goal.invariant-loop-node
invariant-loop-node l = AreSharedNodesOf (map group_in l.tables) (take l.node-index l.nodes) l.shared.items
