use Rattle.std.proofs.Common.{◌≡◌, ◌++◌, map, drop}
use Rattle.leaf_bounds.specs.Group.{group_in}
use Rattle.leaf_bounds.specs.Sharing.{uses_from}
use Rattle.leaf_bounds.proofs.shared_leaf.uses_of.Given as goal

-- those found so far, and those of what is left
abbrev pub invariant-loop-k : goal.invariant-loop-k
invariant-loop-k l = uses_from 0 l._leaf (map group_in l.tables) ≡ l.uses.items ++ uses_from l.k l._leaf (map group_in (drop l.k l.tables))
