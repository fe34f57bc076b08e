-- The two sides of a split of a part.
use Rattle.pair_prices.specs.Case.{CaseRecord}
use Rattle.leaf_bounds.specs.Shown.{bound_of_leaf}
use Rattle.leaf_bounds.specs.Tree.{lists_below, lists_from}
use Rattle.branching.specs.declared.node.Children.{Children}
use Rattle.branching.specs.declared.part.Part.{Part}
use Rattle.branching.specs.Bounds.{IsNoLess}
use Rattle.branching.specs.Lists.{IsCut}
use Rattle.branching.specs.Node.{IsNode}

-- Each side is the node of its part of the lists, and its bound is at least that of the part.
pub record AreChildren (c : CaseRecord) (part : Part) (two : Children) : Type 0 where
  pub is_cut : IsCut part.allowed.lists two.cut
  pub below : IsNode c (lists_below part.allowed.lists two.cut) two.below
  pub rest : IsNode c (lists_from part.allowed.lists two.cut) two.rest
  pub above_below : IsNoLess (bound_of_leaf c part.allowed.lists part.leaf) two.below.bound
  pub above_rest : IsNoLess (bound_of_leaf c part.allowed.lists part.leaf) two.rest.bound
