-- What trees that share potentials say of the trees that they were made of.
use Rattle.std.specs.Prelude.{◌≡◌, List}
use Rattle.patterns.specs.Allowed.{full_lists}
use Rattle.pair_prices.specs.Case.{CaseRecord}
use Rattle.leaf_bounds.specs.declared.leaf.Leaf.{Leaf}
use Rattle.leaf_bounds.specs.declared.table.PotTable.{PotTable}
use Rattle.leaf_bounds.specs.declared.shared.SharedLeaf.{SharedLeaf}
use Rattle.leaf_bounds.specs.declared.shared.SharedNode.{SharedNode}
use Rattle.leaf_bounds.specs.declared.tree.Node.{Node}
use Rattle.leaf_bounds.specs.Expansion.{IsSharedTreeOf, SharedTreeStands, bound_of_shared_tree}
use Rattle.leaf_bounds.specs.Sharing.{IsSharing}
use Rattle.leaf_bounds.specs.Shown.{IsTreeOf, TreeStands, bound_of_tree}
use Rattle.leaf_bounds.specs.Tree.{SplitTree}
use Rattle.shared_trees.specs.Expanded.{ExpandsTo, StandForNodes}

-- The nodes of a sharing expand to the nodes that were shared.
abbrev pub ExpansionsAreLeaves : Type 0
ExpansionsAreLeaves =
    (nodes : List Node) (tables : List PotTable) (shared : List SharedNode) → IsSharing nodes tables shared
    → StandForNodes tables shared nodes

-- The shared nodes are those of a shared tree that stands for the full lists, has the bound of the tree and, each leaf
-- replaced by its expansion over the lists at that leaf, is the tree.
pub record IsStandIn (c : CaseRecord) (tables : List PotTable) (shared : List SharedNode) (tree : SplitTree Leaf) : Type 0 where
  pub made : SplitTree SharedLeaf
  pub order : IsSharedTreeOf shared made
  pub stands : SharedTreeStands c tables (full_lists c.book) made
  pub least : bound_of_shared_tree c tables (full_lists c.book) made ≡ bound_of_tree c (full_lists c.book) tree
  pub expands : ExpandsTo tables (full_lists c.book) made tree

-- Where a tree stands for the full lists, what it is shared as stands in for it.
abbrev pub SharedTreesStandIn : Type 0
SharedTreesStandIn =
    (c : CaseRecord) (nodes : List Node) (tables : List PotTable) (shared : List SharedNode) (tree : SplitTree Leaf)
    → IsTreeOf nodes tree → TreeStands c (full_lists c.book) tree → IsSharing nodes tables shared → IsStandIn c tables shared tree
