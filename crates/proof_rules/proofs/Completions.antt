-- Nodes that were read, and the trees of the lists that are due.
use Rattle.std.proofs.Common.{◌≡◌, List, [], ◌∷◌, ◌++◌, sym, ◌∙◌, ap, append_assoc}
use Rattle.std.specs.Prelude.{⊤, flat_map}
use Rattle.std.proofs.lemmas.List.{append-nil}
use Rattle.patterns.specs.Allowed.{Lists, full_lists}
use Rattle.pair_prices.specs.Case.{CaseRecord}
use Rattle.leaf_bounds.specs.declared.shared.SharedLeaf.{SharedLeaf}
use Rattle.leaf_bounds.specs.declared.shared.SharedNode.{SharedNode}
use Rattle.leaf_bounds.specs.declared.shared.SharedNode.TheVariants.{Split as SharedSplit, Leaf as SharedLeafNode}
use Rattle.leaf_bounds.specs.declared.tree.Bound.{Bound}
use Rattle.leaf_bounds.specs.declared.tree.Bound.TheVariants.{Nothing as NoBound}
use Rattle.leaf_bounds.specs.declared.tree.Cut.{Cut}
use Rattle.leaf_bounds.specs.Group.{Group}
use Rattle.leaf_bounds.specs.Tree.{SplitTree, end, split, preorder, IsParted, lists_below, lists_from, tree_stands, tree_bound, lesser}
use Rattle.proof_rules.proofs.OpenLeaves.{StandsWith}
use Rattle.proof_rules.proofs.LeafWalk.{bound_with}
use Rattle.proof_rules.proofs.TreeWalk.{lesser_assoc, lesser_none}

-- a tree that stands for each of the lists that are due
abbrev pub AreStanding : CaseRecord → List Group → List Lists → List (SplitTree SharedLeaf) → Type 0
AreStanding c groups [] [] = ⊤
AreStanding c groups [] (t ∷ trees) = ⊥
AreStanding c groups (lists ∷ due) [] = ⊥
AreStanding c groups (lists ∷ due) (t ∷ trees) = tree_stands (StandsWith c groups) lists t × AreStanding c groups due trees

-- the least bound of such trees
abbrev pub bound_of_due : CaseRecord → List Group → List Lists → List (SplitTree SharedLeaf) → Bound
bound_of_due c groups [] trees = NoBound
bound_of_due c groups (lists ∷ due) [] = NoBound
bound_of_due c groups (lists ∷ due) (t ∷ trees) = lesser (tree_bound (bound_with c groups) lists t) (bound_of_due c groups due trees)

abbrev pub nodes_in : SplitTree SharedLeaf → List SharedNode
nodes_in tree = preorder SharedLeafNode SharedSplit tree

-- with these trees, the nodes are those of one tree that stands for the full lists
pub record IsCompleted (c : CaseRecord) (groups : List Group) (nodes : List SharedNode) (due : List Lists) (least : Bound) (trees : List (SplitTree SharedLeaf)) : Type 0 where
  pub tree : SplitTree SharedLeaf
  pub stands : tree_stands (StandsWith c groups) (full_lists c.book) tree
  pub order : nodes ++ flat_map nodes_in trees ≡ nodes_in tree
  pub bounds : lesser least (bound_of_due c groups due trees) ≡ tree_bound (bound_with c groups) (full_lists c.book) tree

abbrev pub CanBeCompleted : CaseRecord → List Group → List SharedNode → List Lists → Bound → Type 0
CanBeCompleted c groups nodes due least =
    (trees : List (SplitTree SharedLeaf)) → AreStanding c groups due trees → IsCompleted c groups nodes due least trees

pub nothing_read : (c : CaseRecord) (groups : List Group) → CanBeCompleted c groups [] (full_lists c.book ∷ []) NoBound
nothing_read c groups [] h = absurd h
nothing_read c groups (t ∷ []) h = record {
  tree = t;
  stands = h.0;
  order = append-nil (nodes_in t);
  bounds = lesser_none (tree_bound (bound_with c groups) (full_lists c.book) t);
}
nothing_read c groups (t ∷ u ∷ trees) h = absurd h.1

module _ (c : CaseRecord) (groups : List Group) (nodes : List SharedNode) (lists : Lists) (rest : List Lists) (least : Bound)
    (can : CanBeCompleted c groups nodes (lists ∷ rest) least) where
  pub split_read : (cut : Cut) → IsParted lists cut
      → CanBeCompleted c groups (nodes ++ SharedSplit cut ∷ []) (lists_below lists cut ∷ lists_from lists cut ∷ rest) least
  split_read cut parted [] h = absurd h
  split_read cut parted (a ∷ []) h = absurd h.1
  split_read cut parted (a ∷ b ∷ trees) h =
      let old = can (split cut a b ∷ trees) ((parted, h.0, h.1.0), h.1.1) in
      let node = SharedSplit cut in
      let rest_nodes = flat_map nodes_in trees in
      record {
        tree = old.tree;
        stands = old.stands;
        order = append_assoc nodes (node ∷ []) (nodes_in a ++ (nodes_in b ++ rest_nodes))
            ∙ ap (λ ns. nodes ++ node ∷ ns) (sym (append_assoc (nodes_in a) (nodes_in b) rest_nodes)) ∙ old.order;
        bounds = ap (λ d. lesser least d)
            (sym (lesser_assoc (tree_bound (bound_with c groups) (lists_below lists cut) a) (tree_bound (bound_with c groups) (lists_from lists cut) b)
            (bound_of_due c groups rest trees)))
            ∙ old.bounds;
      }

  pub leaf_read : (l : SharedLeaf) → StandsWith c groups lists l
      → CanBeCompleted c groups (nodes ++ SharedLeafNode l ∷ []) rest (lesser least (bound_with c groups lists l))
  leaf_read l s trees h =
      let old = can (end l ∷ trees) (s, h) in
      record {
        tree = old.tree;
        stands = old.stands;
        order = append_assoc nodes (SharedLeafNode l ∷ []) (flat_map nodes_in trees) ∙ old.order;
        bounds = lesser_assoc least (bound_with c groups lists l) (bound_of_due c groups rest trees) ∙ old.bounds;
      }
