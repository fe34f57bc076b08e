-- Shared nodes stand for the nodes that they were made of.
use Rattle.std.proofs.Common.{◌≡◌, ℕ, zero, suc, List, [], ◌∷◌, length, map, refl, sym, ap, subst, Some, slice_get}
use Rattle.station.proofs.Lists.{Rising}
use Rattle.leaf_bounds.specs.declared.table.PotTable.{PotTable}
use Rattle.leaf_bounds.specs.declared.shared.SharedNode.{SharedNode}
use Rattle.leaf_bounds.specs.declared.shared.SharedNode.TheVariants.{Split as SharedSplit, Leaf as SharedLeafNode}
use Rattle.leaf_bounds.specs.declared.tree.Node.{Node}
use Rattle.leaf_bounds.specs.declared.tree.Node.TheVariants.{Split as SplitNode, Leaf as LeafNode}
use Rattle.leaf_bounds.specs.Group.{Group, group_in}
use Rattle.leaf_bounds.specs.Sharing.{AreSharedNodesOf, IsSharedNodeOf, IsSharing}
use Rattle.shared_trees.specs.Expanded.{StandForNodes, StandsForNode}
use Rattle.shared_trees.proofs.OnceLemmas.{Differs, shared_once}
use Rattle.shared_trees.proofs.ExpandedLemmas.{leaf_expands}

as_many : (gs : List Group) (nodes : List Node) (shared : List SharedNode) → AreSharedNodesOf gs nodes shared → length shared ≡ length nodes
as_many gs [] [] h = refl
as_many gs [] (m ∷ shared) h = absurd h
as_many gs (n ∷ nodes) [] h = absurd h
as_many gs (n ∷ nodes) (m ∷ shared) h = ap suc (as_many gs nodes shared h.1)

node_at : (gs : List Group) (nodes : List Node) (shared : List SharedNode) → AreSharedNodesOf gs nodes shared
    → (k : ℕ) (m : SharedNode) (n : Node) → slice_get shared k ≡ Some m → slice_get nodes k ≡ Some n → IsSharedNodeOf gs n m
node_at gs [] [] h k m n e f = cc
node_at gs [] (y ∷ shared) h k m n e f = absurd h
node_at gs (x ∷ nodes) [] h k m n e f = absurd h
node_at gs (x ∷ nodes) (y ∷ shared) h zero m n e f =
    let one : y ≡ m = cc in
    let other : x ≡ n = cc in
    subst (λ (z : Node). IsSharedNodeOf gs z m) other (subst (λ (z : SharedNode). IsSharedNodeOf gs x z) one h.0)
node_at gs (x ∷ nodes) (y ∷ shared) h (suc k) m n e f = node_at gs nodes shared h.1 k m n e f

node_stands : (tables : List PotTable) → Rising Differs (map group_in tables) → (n : Node) (m : SharedNode) → IsSharedNodeOf (map group_in tables) n m
    → StandsForNode tables m n
node_stands tables once (SplitNode cut) (SharedSplit other) h = sym h
node_stands tables once (SplitNode cut) (SharedLeafNode s) h = h
node_stands tables once (LeafNode l) (SharedSplit other) h = h
node_stands tables once (LeafNode l) (SharedLeafNode s) h = λ lists a. leaf_expands tables l s once h lists a

-- the tables of a sharing, and its nodes by these tables
pub tables_once : (nodes : List Node) (tables : List PotTable) (shared : List SharedNode) → IsSharing nodes tables shared → Rising Differs (map group_in tables)
tables_once nodes tables shared h = subst (λ (gs : List Group). Rising Differs gs) (sym h.groups) (shared_once nodes)

pub nodes_of_tables : (nodes : List Node) (tables : List PotTable) (shared : List SharedNode) → IsSharing nodes tables shared
    → AreSharedNodesOf (map group_in tables) nodes shared
nodes_of_tables nodes tables shared h = subst (λ (gs : List Group). AreSharedNodesOf gs nodes shared) (sym h.groups) h.each_node

pub nodes_stand : (nodes : List Node) (tables : List PotTable) (shared : List SharedNode) → IsSharing nodes tables shared → StandForNodes tables shared nodes
nodes_stand nodes tables shared h = record {
  count = as_many (map group_in tables) nodes shared (nodes_of_tables nodes tables shared h);
  each = λ k m n e f.
      node_stands tables (tables_once nodes tables shared h) n m
      (node_at (map group_in tables) nodes shared (nodes_of_tables nodes tables shared h) k m n e f);
}
