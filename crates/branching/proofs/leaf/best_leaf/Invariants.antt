use Rattle.std.proofs.Common.{vec_len, ◌⊎◌}
use Rattle.std.specs.Prelude.{All, Contains}
use Rattle.leaf_bounds.specs.declared.leaf.Leaf.{Leaf}
use Rattle.leaf_bounds.specs.Shown.{bound_of_leaf, LeafStands}
use Rattle.branching.specs.Bounds.{IsNoLess}
use Rattle.branching.specs.Node.{IsValued}
use Rattle.branching.proofs.leaf.best_leaf.Given as goal

abbrev pub invariant-loop-leaf : goal.invariant-loop-leaf
invariant-loop-leaf l = record {
  valued : IsValued l.case l.allowed.lists l.best;
  rest : All (LeafStands l.case l.allowed.lists) l.others.items;
  first : IsNoLess (bound_of_leaf l.case l.allowed.lists l.fn.first) l.best.bound;
  seen : (k : Leaf) → Contains l.fn.others.items k → Contains l.others.items k ⊎ IsNoLess (bound_of_leaf l.case l.allowed.lists k) l.best.bound;
}

abbrev pub decreases-loop-leaf : goal.decreases-loop-leaf
decreases-loop-leaf l = vec_len l.others
