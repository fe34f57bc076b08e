-- A tree of one leaf shows what the leaf's check answers.
use Rattle.std.proofs.Common.{◌≡◌, List, [], ◌∷◌, cond, ap, ◌∙◌, subst, Option, None, Some, Ok}
use Rattle.patterns.specs.Allowed.{Lists, full_lists}
use Rattle.pair_prices.specs.Case.{CaseRecord}
use Rattle.leaf_bounds.specs.declared.check.LeafValue.{LeafValue}
use Rattle.leaf_bounds.specs.declared.check.PairPlace.{PairPlace}
use Rattle.leaf_bounds.specs.declared.check.PatternPlace.{PatternPlace}
use Rattle.leaf_bounds.specs.declared.leaf.Leaf.{Leaf}
use Rattle.leaf_bounds.specs.declared.tree.Bound.{Bound}
use Rattle.leaf_bounds.specs.declared.tree.Bound.TheVariants.{AtLeast, Nothing}
use Rattle.leaf_bounds.specs.declared.tree.Node.{Node}
use Rattle.leaf_bounds.specs.declared.tree.Node.TheVariants.{Leaf as LeafNode}
use Rattle.leaf_bounds.specs.Shown.{numbers_of, LeafStands}
use Rattle.leaf_bounds.specs.Tree.{end}
use Rattle.leaf_bounds.specs.Verdict.{answer_of, first_pair, first_pattern, verdict_by, verdict_of}
use Rattle.shared_trees.specs.Written.{IsShownBy}

answered_by : (o : Option PairPlace) (r : Option PatternPlace) (v answer : LeafValue) → Ok v ≡ verdict_by o r answer → v ≡ answer
answered_by (Some p) r v answer e = cc
answered_by None (Some x) v answer e = cc
answered_by None None v answer e = cc

answered : (c : CaseRecord) (lists : Lists) (l : Leaf) (v : LeafValue) → Ok v ≡ verdict_of c lists (numbers_of l) → v ≡ answer_of c (numbers_of l)
unfolding verdict_of
answered c lists l v e = answered_by (first_pair c lists (numbers_of l)) (first_pattern c lists (numbers_of l)) v (answer_of c (numbers_of l)) e

pub one_leaf_shown : (c : CaseRecord) (lists : Lists) (l : Leaf) (v : LeafValue) (bound : Bound) (nodes : List Node) → lists ≡ full_lists c.book
    → LeafStands c lists l → Ok v ≡ verdict_of c lists (numbers_of l) → bound ≡ cond v.empty Nothing (AtLeast v.bound) → nodes ≡ LeafNode l ∷ []
    → IsShownBy c nodes bound
one_leaf_shown c lists l v bound nodes full stands verdict is e = record {
  tree = end l;
  order = e;
  stands = subst (λ (ls : Lists). LeafStands c ls l) full stands;
  least = is ∙ ap (λ (x : LeafValue). cond x.empty Nothing (AtLeast x.bound)) (answered c lists l v verdict);
}
