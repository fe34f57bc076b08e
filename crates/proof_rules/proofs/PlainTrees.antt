-- Trees without tables: a plain tree, and the shared tree that uses none.
use Rattle.std.proofs.Common.{◌≡◌, ◌<◌, List, [], ◌∷◌, ◌++◌, map, refl, sym, ◌∙◌, ap, subst, arith}
use Rattle.std.specs.Prelude.{flat_map}
use Rattle.std.specs.List.{All}
use Rattle.std.proofs.lemmas.List.{append-nil}
use Rattle.std.proofs.lemmas.List.Elements.{All-nil, All-head}
use Rattle.patterns.specs.Allowed.{Lists}
use Rattle.pair_prices.specs.Case.{CaseRecord}
use Rattle.leaf_bounds.specs.declared.uses.UseOf.{UseOf}
use Rattle.leaf_bounds.specs.declared.leaf.Leaf.{Leaf as LeafOf}
use Rattle.leaf_bounds.specs.declared.shared.SharedLeaf.{SharedLeaf}
use Rattle.leaf_bounds.specs.declared.shared.SharedNode.TheVariants.{Split as SharedSplit, Leaf as SharedLeafNode}
use Rattle.leaf_bounds.specs.declared.tree.Node.{Node}
use Rattle.leaf_bounds.specs.declared.tree.Node.TheVariants.{Split as SplitNode, Leaf as LeafNode}
use Rattle.leaf_bounds.specs.Leaf.{LeafRecord, StandsFor, bound_of}
use Rattle.leaf_bounds.specs.Listed.{AreUses}
use Rattle.leaf_bounds.specs.Shown.{numbers_of, LeafStands, bound_of_leaf}
use Rattle.leaf_bounds.specs.Expansion.{AreSmall, expansion}
use Rattle.leaf_bounds.specs.Tree.{SplitTree, end, split, preorder, lists_below, lists_from, tree_stands, tree_bound, lesser}
use Rattle.leaf_bounds.proofs.FindLemmas.{flat_map-append}
use Rattle.proof_file.specs.declared.record.ProofRecord.TheVariants.{Split, Use, Close}
use Rattle.proof_file.specs.Text.{node_records, shared_node_records, numbers_of as number_records}
use Rattle.proof_rules.proofs.SmallFacts.{expansion_alone}
use Rattle.proof_rules.proofs.OpenLeaves.{StandsWith, own_small}
use Rattle.proof_rules.proofs.OpenSteps.{take_nothing}
use Rattle.proof_rules.proofs.LeafWalk.{bound_with}
use Rattle.proof_rules.proofs.Completions.{nodes_in}

-- what holds of each leaf in its lists
pub tree_weaker : {L : Type 0} (P Q : Lists → L → Type 0) → ((lists : Lists) (l : L) → P lists l → Q lists l) → (tree : SplitTree L) (lists : Lists)
    → tree_stands P lists tree → tree_stands Q lists tree
tree_weaker P Q weaker (end l) lists h = weaker lists l h
tree_weaker P Q weaker (split cut a b) lists h =
    (h.0, tree_weaker P Q weaker a (lists_below lists cut) h.1, tree_weaker P Q weaker b (lists_from lists cut) h.2)

abbrev pub plain_of : SplitTree SharedLeaf → SplitTree LeafOf
plain_of (end l) = end l.rest
plain_of (split cut a b) = split cut (plain_of a) (plain_of b)

abbrev pub plain_nodes : SplitTree LeafOf → List Node
plain_nodes tree = preorder LeafNode SplitNode tree

-- without tables there are no uses

no_uses : (uses : List UseOf) → All (λ x. x.table < 0) uses → uses ≡ []
no_uses [] h = refl
no_uses (x ∷ uses) h = let below = All-head (λ y. y.table < 0) x uses h in absurd (omega (arith, below))

same_numbers : (c : CaseRecord) (lists : Lists) (l : SharedLeaf) → StandsWith c [] lists l → expansion [] lists (numbers_of l.rest) l.uses ≡ numbers_of l.rest
same_numbers c lists l s = ap (λ us. expansion [] lists (numbers_of l.rest) us) (no_uses l.uses s.uses) ∙ expansion_alone [] lists (numbers_of l.rest)

pub plain_stands : (c : CaseRecord) (lists : Lists) (l : SharedLeaf) → StandsWith c [] lists l → LeafStands c lists l.rest
plain_stands c lists l s = record { places = s.places; stands = subst (λ (r : LeafRecord). StandsFor c lists r) (same_numbers c lists l s) s.stands }

pub plain_tree_stands : (c : CaseRecord) (tree : SplitTree SharedLeaf) (lists : Lists) → tree_stands (StandsWith c []) lists tree
    → tree_stands (LeafStands c) lists (plain_of tree)
plain_tree_stands c (end l) lists h = plain_stands c lists l h
plain_tree_stands c (split cut a b) lists h =
    (h.0, plain_tree_stands c a (lists_below lists cut) h.1, plain_tree_stands c b (lists_from lists cut) h.2)

pub plain_bound : (c : CaseRecord) (tree : SplitTree SharedLeaf) (lists : Lists) → tree_stands (StandsWith c []) lists tree
    → tree_bound (bound_with c []) lists tree ≡ tree_bound (bound_of_leaf c) lists (plain_of tree)
plain_bound c (end l) lists h = ap (λ r. bound_of c r) (same_numbers c lists l h)
plain_bound c (split cut a b) lists h =
    ap (λ d. lesser d (tree_bound (bound_with c []) (lists_from lists cut) b)) (plain_bound c a (lists_below lists cut) h.1)
    ∙ ap (λ d. lesser (tree_bound (bound_of_leaf c) (lists_below lists cut) (plain_of a)) d) (plain_bound c b (lists_from lists cut) h.2)

leaf_text : (l : SharedLeaf) → l.uses ≡ [] → shared_node_records (SharedLeafNode l) ++ [] ≡ node_records (LeafNode l.rest) ++ []
leaf_text l e =
    ap (λ us. number_records l.rest ++ map (λ x. Use x) us ++ Close ∷ [] ++ []) e
    ∙ ap (λ rs. rs ++ Close ∷ [] ++ []) (append-nil (number_records l.rest))

pub plain_text : (c : CaseRecord) (tree : SplitTree SharedLeaf) (lists : Lists) → tree_stands (StandsWith c []) lists tree
    → flat_map shared_node_records (nodes_in tree) ≡ flat_map node_records (plain_nodes (plain_of tree))
plain_text c (end l) lists h = leaf_text l (no_uses l.uses h.uses)
plain_text c (split cut a b) lists h =
    flat_map-append shared_node_records (SharedSplit cut ∷ nodes_in a) (nodes_in b)
    ∙ ap (λ rs. Split cut ∷ rs ++ flat_map shared_node_records (nodes_in b)) (plain_text c a (lists_below lists cut) h.1)
    ∙ ap (λ rs. Split cut ∷ flat_map node_records (plain_nodes (plain_of a)) ++ rs) (plain_text c b (lists_from lists cut) h.2)
    ∙ sym (flat_map-append node_records (SplitNode cut ∷ plain_nodes (plain_of a)) (plain_nodes (plain_of b)))

-- a plain leaf as one that uses no table

pub none_used : AreUses []
none_used = λ i x y e f. absurd (cc e)

abbrev pub shared_leaf : LeafOf → SharedLeaf
shared_leaf l = record { rest = l; uses = []; kept = none_used }

abbrev pub shared_of : SplitTree LeafOf → SplitTree SharedLeaf
shared_of (end l) = end (shared_leaf l)
shared_of (split cut a b) = split cut (shared_of a) (shared_of b)

pub back_again : (tree : SplitTree LeafOf) → plain_of (shared_of tree) ≡ tree
back_again (end l) = refl
back_again (split cut a b) = ap (λ t. split cut t (plain_of (shared_of b))) (back_again a) ∙ ap (λ t. split cut a t) (back_again b)

shared_stands : (c : CaseRecord) (lists : Lists) (l : LeafOf) → LeafStands c lists l → StandsWith c [] lists (shared_leaf l)
shared_stands c lists l s = record {
  places = s.places;
  uses = All-nil (λ x. x.table < 0);
  small = λ k h. subst AreSmall
      (sym (ap (λ us. expansion [] lists (numbers_of l) us) (take_nothing k) ∙ expansion_alone [] lists (numbers_of l)))
      (own_small l.q l.u l.v l.alpha l.beta l.kept.alpha_each l.kept.beta_each l.kept.alpha_ascends l.kept.beta_ascends);
  stands = subst (λ (r : LeafRecord). StandsFor c lists r) (sym (expansion_alone [] lists (numbers_of l))) s.stands;
}

pub shared_tree_stands : (c : CaseRecord) (tree : SplitTree LeafOf) (lists : Lists) → tree_stands (LeafStands c) lists tree
    → tree_stands (StandsWith c []) lists (shared_of tree)
shared_tree_stands c (end l) lists h = shared_stands c lists l h
shared_tree_stands c (split cut a b) lists h =
    (h.0, shared_tree_stands c a (lists_below lists cut) h.1, shared_tree_stands c b (lists_from lists cut) h.2)
