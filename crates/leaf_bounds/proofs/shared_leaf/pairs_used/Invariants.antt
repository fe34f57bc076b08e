use Rattle.std.proofs.Common.{◌≡◌, ◌++◌, map, drop}
use Rattle.leaf_bounds.specs.Group.{group_in}
use Rattle.leaf_bounds.specs.Sharing.{used_pairs}
use Rattle.leaf_bounds.proofs.shared_leaf.pairs_used.Given as goal

-- those found so far, and those of what is left
abbrev pub invariant-loop-table : goal.invariant-loop-table
invariant-loop-table l = used_pairs (map group_in l.tables) l._leaf ≡ l.pairs.items ++ used_pairs (map group_in (drop l.table-index l.tables)) l._leaf
