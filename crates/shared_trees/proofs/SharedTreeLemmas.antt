-- Where a tree stands, so does its shared tree.
use Rattle.std.proofs.Common.{◌≡◌, List, [], ◌∷◌, ◌++◌, map, refl, sym, ap, ◌∙◌, subst, append_assoc}
use Rattle.station.proofs.Lists.{Every, Rising}
use Rattle.patterns.specs.Allowed.{Lists, full_lists}
use Rattle.patterns.proofs.ListLemmas.{full_fits}
use Rattle.pair_prices.specs.Case.{CaseRecord}
use Rattle.leaf_bounds.specs.declared.leaf.Leaf.{Leaf}
use Rattle.leaf_bounds.specs.declared.shared.SharedLeaf.{SharedLeaf}
use Rattle.leaf_bounds.specs.declared.shared.SharedNode.{SharedNode}
use Rattle.leaf_bounds.specs.declared.shared.SharedNode.TheVariants.{Split as SharedSplit, Leaf as SharedLeafNode}
use Rattle.leaf_bounds.specs.declared.table.PotTable.{PotTable}
use Rattle.leaf_bounds.specs.declared.tree.Cut.{Cut}
use Rattle.leaf_bounds.specs.declared.tree.Node.{Node}
use Rattle.leaf_bounds.specs.declared.tree.Node.TheVariants.{Split as SplitNode, Leaf as LeafNode}
use Rattle.leaf_bounds.specs.Group.{Group, group_in}
use Rattle.leaf_bounds.specs.Expansion.{SharedLeafStands, bound_of_shared_leaf}
use Rattle.leaf_bounds.specs.Sharing.{AreSharedNodesOf, IsSharedLeafOf, IsSharing}
use Rattle.leaf_bounds.specs.Shown.{IsTreeOf, TreeStands, bound_of_leaf}
use Rattle.leaf_bounds.specs.Tree.{SplitTree, end, split, preorder, tree_stands, tree_bound, lesser, lists_below, lists_from}
use Rattle.leaf_bounds.proofs.GroupLemmas.{append_nothing}
use Rattle.shared_trees.specs.Expanded.{ExpandsTo}
use Rattle.shared_trees.specs.Laws.{IsStandIn}
use Rattle.shared_trees.proofs.OnceLemmas.{Differs}
use Rattle.shared_trees.proofs.NodeLemmas.{nodes_of_tables, tables_once}
use Rattle.shared_trees.proofs.ThereLemmas.{IsNodeThere, leaves_there, tree_there}
use Rattle.shared_trees.proofs.TableLemmas.{groups_there, tables_there}
use Rattle.shared_trees.proofs.SharedLeafLemmas.{leaf_bound, leaf_is, leaf_stands}

-- the shared tree has the splits of the tree, and the shared leaves of its leaves
abbrev AreTrees : List Group → SplitTree Leaf → SplitTree SharedLeaf → Type 0
AreTrees gs (end l) (end s) = IsSharedLeafOf gs l s
AreTrees gs (end l) (split other d e) = ⊥
AreTrees gs (split cut a b) (end s) = ⊥
AreTrees gs (split cut a b) (split other d e) = (cut ≡ other) × AreTrees gs a d × AreTrees gs b e

record IsParsed (gs : List Group) (tree : SplitTree Leaf) (rest : List Node) (shared : List SharedNode) : Type 0 where
  made : SplitTree SharedLeaf
  more : List SharedNode
  order : shared ≡ preorder SharedLeafNode SharedSplit made ++ more
  same : AreTrees gs tree made
  others : AreSharedNodesOf gs rest more

parsed : (gs : List Group) (tree : SplitTree Leaf) (rest : List Node) (shared : List SharedNode)
    → AreSharedNodesOf gs (preorder LeafNode SplitNode tree ++ rest) shared → IsParsed gs tree rest shared
parsed gs (end l) rest [] h = absurd h
parsed gs (end l) rest (SharedSplit other ∷ shared) h = absurd h.0
parsed gs (end l) rest (SharedLeafNode s ∷ shared) h = record { made = end s; more = shared; order = refl; same = h.0; others = h.1 }
parsed gs (split cut a b) rest [] h = absurd h
parsed gs (split cut a b) rest (SharedLeafNode s ∷ shared) h = absurd h.0
parsed gs (split cut a b) rest (SharedSplit other ∷ shared) h =
    let first = parsed gs a (preorder LeafNode SplitNode b ++ rest) shared
    (subst (λ (ns : List Node). AreSharedNodesOf gs ns shared) (append_assoc (preorder LeafNode SplitNode a) (preorder LeafNode SplitNode b) rest) h.1) in
    let second = parsed gs b rest first.more first.others in
    record {
      made = split other first.made second.made;
      more = second.more;
      order = ap (λ (ns : List SharedNode). SharedSplit other ∷ ns)
          (first.order ∙ ap (λ (ns : List SharedNode). preorder SharedLeafNode SharedSplit first.made ++ ns) second.order
          ∙ sym (append_assoc (preorder SharedLeafNode SharedSplit first.made) (preorder SharedLeafNode SharedSplit second.made) second.more));
      same = (h.0, first.same, second.same);
      others = second.others;
    }

-- nothing is left behind the tree
nothing_more : (gs : List Group) (more : List SharedNode) → AreSharedNodesOf gs [] more → more ≡ []
nothing_more gs [] h = refl
nothing_more gs (n ∷ more) h = absurd h

record IsWhole (gs : List Group) (tree : SplitTree Leaf) (shared : List SharedNode) : Type 0 where
  made : SplitTree SharedLeaf
  order : shared ≡ preorder SharedLeafNode SharedSplit made
  same : AreTrees gs tree made

whole : (gs : List Group) (nodes : List Node) (tree : SplitTree Leaf) (shared : List SharedNode) → IsTreeOf nodes tree → AreSharedNodesOf gs nodes shared
    → IsWhole gs tree shared
whole gs nodes tree shared e h =
    let p = parsed gs tree [] shared
    (subst (λ (ns : List Node). AreSharedNodesOf gs ns shared) (e ∙ sym (append_nothing (preorder LeafNode SplitNode tree))) h) in
    record {
      made = p.made;
      order = p.order ∙ ap (λ (ns : List SharedNode). preorder SharedLeafNode SharedSplit p.made ++ ns) (nothing_more gs p.more p.others)
          ∙ append_nothing (preorder SharedLeafNode SharedSplit p.made);
      same = p.same;
    }

module _ (c : CaseRecord) (tables : List PotTable) (once : Rising Differs (map group_in tables)) where
  stands : (lists : Lists) (tree : SplitTree Leaf) (made : SplitTree SharedLeaf) → AreTrees (map group_in tables) tree made → TreeStands c lists tree
      → tree_stands (SharedLeafStands c tables) lists made
  stands lists (end l) (end s) h t = leaf_stands c tables once lists l s h t
  stands lists (end l) (split other d e) h t = absurd h
  stands lists (split cut a b) (end s) h t = absurd h
  stands lists (split cut a b) (split other d e) h t =
      subst (λ (x : Cut). tree_stands (SharedLeafStands c tables) lists (split x d e)) h.0
      (t.0, stands (lists_below lists cut) a d h.1 t.1, stands (lists_from lists cut) b e h.2 t.2)

  expands : (lists : Lists) (tree : SplitTree Leaf) (made : SplitTree SharedLeaf) → AreTrees (map group_in tables) tree made → TreeStands c lists tree
      → ExpandsTo tables lists made tree
  expands lists (end l) (end s) h t = leaf_is c tables once lists l s h t
  expands lists (end l) (split other d e) h t = absurd h
  expands lists (split cut a b) (end s) h t = absurd h
  expands lists (split cut a b) (split other d e) h t =
      (sym h.0, expands (lists_below lists cut) a d h.1 t.1, expands (lists_from lists cut) b e h.2 t.2)

  bounds : (lists : Lists) (tree : SplitTree Leaf) (made : SplitTree SharedLeaf) → AreTrees (map group_in tables) tree made → TreeStands c lists tree
      → tree_bound (bound_of_shared_leaf c tables) lists made ≡ tree_bound (bound_of_leaf c) lists tree
  bounds lists (end l) (end s) h t = leaf_bound c tables once lists l s h t
  bounds lists (end l) (split other d e) h t = absurd h
  bounds lists (split cut a b) (end s) h t = absurd h
  bounds lists (split cut a b) (split other d e) h t =
      let first = bounds (lists_below lists cut) a d h.1 t.1 in
      let second = bounds (lists_from lists cut) b e h.2 t.2 in
      ap (λ (x : Cut). tree_bound (bound_of_shared_leaf c tables) lists (split x d e)) (sym h.0) ∙ (λ i. lesser (first i) (second i))

-- what holds at each node
pub tree_nodes_there : (c : CaseRecord) (nodes : List Node) (tree : SplitTree Leaf) → IsTreeOf nodes tree → TreeStands c (full_lists c.book) tree
    → Every (IsNodeThere c) nodes
tree_nodes_there c nodes tree e t =
    subst (λ (ns : List Node). Every (IsNodeThere c) ns) (sym e) (tree_there c (full_lists c.book) tree (full_fits c.book) t)

pub shared_tree : (c : CaseRecord) (nodes : List Node) (tables : List PotTable) (shared : List SharedNode) (tree : SplitTree Leaf) → IsTreeOf nodes tree
    → TreeStands c (full_lists c.book) tree → IsSharing nodes tables shared → IsStandIn c tables shared tree
shared_tree c nodes tables shared tree e t h =
    let once = tables_once nodes tables shared h in
    let w = whole (map group_in tables) nodes tree shared e (nodes_of_tables nodes tables shared h) in
    record {
      made = w.made;
      order = w.order;
      stands = record {
        each_table = tables_there c tables (groups_there c nodes tables h.groups (leaves_there c nodes (tree_nodes_there c nodes tree e t)));
        leaves = stands c tables once (full_lists c.book) tree w.made w.same t;
      };
      least = bounds c tables once (full_lists c.book) tree w.made w.same t;
      expands = expands c tables once (full_lists c.book) tree w.made w.same t;
    }
