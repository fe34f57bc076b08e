-- What shared nodes and shared trees expand to, node by node and over the lists at each leaf.
use Rattle.std.specs.Prelude.{◌≡◌, ℕ, List, length, slice_get, Some, All, Contains}
use Rattle.patterns.specs.Allowed.{Lists, list_of}
use Rattle.leaf_bounds.specs.declared.leaf.Leaf.{Leaf}
use Rattle.leaf_bounds.specs.declared.table.PotTable.{PotTable}
use Rattle.leaf_bounds.specs.declared.shared.SharedLeaf.{SharedLeaf}
use Rattle.leaf_bounds.specs.declared.shared.SharedNode.{SharedNode}
use Rattle.leaf_bounds.specs.declared.shared.SharedNode.TheVariants.{Split as SharedSplit, Leaf as SharedLeafNode}
use Rattle.leaf_bounds.specs.declared.tree.Node.{Node}
use Rattle.leaf_bounds.specs.declared.tree.Node.TheVariants.{Split as SplitNode, Leaf as LeafNode}
use Rattle.leaf_bounds.specs.Expansion.{expanded}
use Rattle.leaf_bounds.specs.Shown.{numbers_of}
use Rattle.leaf_bounds.specs.Tree.{SplitTree, end, split, lists_below, lists_from}

-- all the leaf's numbers lie in the lists: each alpha number in the list of its first train, each beta number in that of
-- its second
pub record AreInLists (lists : Lists) (l : Leaf) : Type 0 where
  pub alpha : All (λ x. Contains (list_of lists x.first) x.number) l.alpha
  pub beta : All (λ x. Contains (list_of lists x.second) x.number) l.beta

-- The leaf's expansion over the lists is the leaf: scale, train, minute and pair numbers are the same.
abbrev pub IsExpansion : List PotTable → Lists → SharedLeaf → Leaf → Type 0
IsExpansion tables lists s l = expanded tables lists s ≡ numbers_of l

-- A split stands for that split, and a leaf for a leaf that it expands to over all lists in which this leaf's numbers lie.
abbrev pub StandsForNode : List PotTable → SharedNode → Node → Type 0
StandsForNode tables (SharedSplit other) (SplitNode cut) = other ≡ cut
StandsForNode tables (SharedSplit other) (LeafNode l) = ⊥
StandsForNode tables (SharedLeafNode s) (SplitNode cut) = ⊥
StandsForNode tables (SharedLeafNode s) (LeafNode l) = (lists : Lists) → AreInLists lists l → IsExpansion tables lists s l

-- There are as many shared nodes as nodes, and each stands for the node at its place.
pub record StandForNodes (tables : List PotTable) (shared : List SharedNode) (nodes : List Node) : Type 0 where
  pub count : length shared ≡ length nodes
  pub each : (k : ℕ) (m : SharedNode) (n : Node) → slice_get shared k ≡ Some m → slice_get nodes k ≡ Some n → StandsForNode tables m n

-- The shared tree, each leaf replaced by its expansion over the lists at that leaf, is the tree.
abbrev pub ExpandsTo : List PotTable → Lists → SplitTree SharedLeaf → SplitTree Leaf → Type 0
ExpandsTo tables lists (end s) (end l) = IsExpansion tables lists s l
ExpandsTo tables lists (end s) (split cut a b) = ⊥
ExpandsTo tables lists (split other d e) (end l) = ⊥
ExpandsTo tables lists (split other d e) (split cut a b) =
    (other ≡ cut) × ExpandsTo tables (lists_below lists cut) d a × ExpandsTo tables (lists_from lists cut) e b
