-- Nodes of the search: lists, with a leaf that stands for them.
use Rattle.std.specs.Prelude.{◌≡◌, false, Option, Some, None, pos}
use Rattle.patterns.specs.Allowed.{Lists, FitsBook}
use Rattle.pair_prices.specs.Case.{CaseRecord}
use Rattle.leaf_bounds.specs.declared.tree.Bound.{Bound}
use Rattle.leaf_bounds.specs.declared.tree.Bound.TheVariants.{AtLeast, Nothing}
use Rattle.branching.specs.declared.found.Priced.{Priced}
use Rattle.leaf_bounds.specs.Shown.{LeafStands, bound_of_leaf}
use Rattle.branching.specs.declared.node.Node.{Node}
use Rattle.branching.specs.declared.node.Valued.{Valued}
use Rattle.branching.specs.Bounds.{IsAtLeast, least_sum}
use Rattle.branching.specs.Known.{IsPricedIfAny, is_settled}
use Rattle.branching.specs.Lists.{IsUndecided}

-- a leaf that stands for the lists, with what it says of their plans
pub record IsValued (c : CaseRecord) (lists : Lists) (v : Valued) : Type 0 where
  pub stands : LeafStands c lists v.leaf
  pub value : v.bound ≡ bound_of_leaf c lists v.leaf

-- lists that may be split, whose bound is at least the sum of their least prices
pub record IsOpenPart (c : CaseRecord) (lists : Lists) (b : Bound) : Type 0 where
  pub fits : FitsBook lists c.book
  pub undecided : IsUndecided lists
  pub plain : IsAtLeast (pos (least_sum c lists)) b

pub record IsNode (c : CaseRecord) (lists : Lists) (n : Node) : Type 0 where
  pub own : n.part.allowed.lists ≡ lists
  pub stands : LeafStands c lists n.part.leaf
  pub value : n.bound ≡ bound_of_leaf c lists n.part.leaf
  pub priced : IsPricedIfAny c n.plan
  -- unless its own plan settles it, it may be split
  pub open_part : is_settled n.plan n.bound ≡ false → IsOpenPart c lists n.bound

-- the bound of a part with this one plan, or with none
abbrev pub cost_bound : Option Priced → Bound
cost_bound None = Nothing
cost_bound (Some p) = AtLeast p.cost
