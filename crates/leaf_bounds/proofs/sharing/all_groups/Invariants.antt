use Rattle.std.proofs.Common.{◌≡◌, ◌++◌, map, drop}
use Rattle.leaf_bounds.specs.Group.{group_in}
use Rattle.leaf_bounds.specs.Sharing.{carried}
use Rattle.leaf_bounds.proofs.sharing.all_groups.Given as goal

-- those found so far, and those of what is left
abbrev pub invariant-loop-node : goal.invariant-loop-node
invariant-loop-node l = carried l.nodes ≡ map group_in l.all.items ++ carried (drop l.node-index l.nodes)
