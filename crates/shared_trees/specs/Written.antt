-- The written proof of a tree.
use Rattle.std.specs.Prelude.{◌≡◌, ℕ, List, length}
use Rattle.patterns.specs.Allowed.{full_lists}
use Rattle.pair_prices.specs.Case.{CaseRecord}
use Rattle.leaf_bounds.specs.declared.leaf.Leaf.{Leaf}
use Rattle.leaf_bounds.specs.declared.table.PotTable.{PotTable}
use Rattle.leaf_bounds.specs.declared.shared.SharedNode.{SharedNode}
use Rattle.leaf_bounds.specs.declared.tree.Bound.{Bound}
use Rattle.leaf_bounds.specs.declared.tree.Node.{Node}
use Rattle.leaf_bounds.specs.Sharing.{IsSharing}
use Rattle.leaf_bounds.specs.Shown.{IsTreeOf, TreeStands, bound_of_tree}
use Rattle.leaf_bounds.specs.Tree.{SplitTree}
use Rattle.proof_file.specs.Text.{shared_text}
use Rattle.shared_trees.specs.Laws.{IsStandIn}

-- The nodes are those of a tree that stands for the full lists, and that has the bound.
pub record IsShownBy (c : CaseRecord) (nodes : List Node) (bound : Bound) : Type 0 where
  pub tree : SplitTree Leaf
  pub order : IsTreeOf nodes tree
  pub stands : TreeStands c (full_lists c.book) tree
  pub least : bound ≡ bound_of_tree c (full_lists c.book) tree

-- The bytes are the text of the nodes' sharing and of the bound, and the shared tree in them stands in for the tree of the
-- nodes: it stands for the full lists with the same bound and, each leaf replaced by its expansion over the lists at that
-- leaf, is that tree.
pub record IsWrittenOf (c : CaseRecord) (nodes : List Node) (bound : Bound) (bytes : List ℕ) : Type 0 where
  pub tables : List PotTable
  pub shared : List SharedNode
  pub sharing : IsSharing nodes tables shared
  pub text : bytes ≡ shared_text (length c.book) tables shared bound
  pub tree : SplitTree Leaf
  pub order : IsTreeOf nodes tree
  pub stand_in : IsStandIn c tables shared tree
