-- What holds at each node of a tree that stands: its trains are there, and its numbers are those of these trains' offers.
use Rattle.std.proofs.Common.{◌≡◌, ◌⊎◌, ℕ, ◌<◌, ◌≤◌, cond, List, [], ◌∷◌, length, refl, ap, ◌∙◌, subst, arith, inl, inr, nat_le}
use Rattle.std.specs.Prelude.{Contains}
use Rattle.std.specs.List.{filter}
use Rattle.std.proofs.lemmas.Bool.{cases_lt, lt-leb}
use Rattle.std.proofs.lemmas.List.{get_or_past}
use Rattle.std.proofs.lemmas.List.Elements.{All-contains}
use Rattle.station.proofs.Lists.{Every, every-append}
use Rattle.patterns.specs.Book.{offers_of}
use Rattle.patterns.specs.Allowed.{Lists, list_of, part_below, part_from, FitsBook}
use Rattle.patterns.proofs.ListLemmas.{below_fits, rest_fits}
use Rattle.pair_prices.specs.Case.{CaseRecord}
use Rattle.leaf_bounds.specs.declared.leaf.Leaf.{Leaf}
use Rattle.leaf_bounds.specs.declared.number.PairValue.{PairValue}
use Rattle.leaf_bounds.specs.declared.tree.Cut.{Cut}
use Rattle.leaf_bounds.specs.declared.tree.Node.{Node}
use Rattle.leaf_bounds.specs.declared.tree.Node.TheVariants.{Split as SplitNode, Leaf as LeafNode}
use Rattle.leaf_bounds.specs.Sharing.{leaves_of}
use Rattle.leaf_bounds.specs.Shown.{IsPairThere, LeafStands, TreeStands}
use Rattle.leaf_bounds.specs.Tree.{SplitTree, end, split, preorder, IsParted, lists_below, lists_from}
use Rattle.shared_trees.proofs.OnceLemmas.{every_of_all}

-- an entry's pair is there, and its number is one of the offers of the train that it is listed for
pub record IsEntryThere (c : CaseRecord) (train : PairValue → ℕ) (x : PairValue) : Type 0 where
  pub order : x.first < x.second
  pub there : x.second < length c.book
  pub number : x.number < length (offers_of c.book (train x))

pub record IsLeafThere (c : CaseRecord) (l : Leaf) : Type 0 where
  pub alpha : Every (IsEntryThere c (λ x. x.first)) l.alpha
  pub beta : Every (IsEntryThere c (λ x. x.second)) l.beta

pub record IsCutThere (c : CaseRecord) (cut : Cut) : Type 0 where
  pub train : cut.train < length c.book
  pub at : cut.at < length (offers_of c.book cut.train)

empty_past : (lists : Lists) (t : ℕ) → length lists ≤ t → list_of lists t ≡ []
empty_past lists t h = get_or_past lists t [] h

no_member : (i : ℕ) → Contains [] i → ⊥
no_member i h = omega (arith, h.1)

number_by : (c : CaseRecord) (lists : Lists) (t i : ℕ) → FitsBook lists c.book → Contains (list_of lists t) i → (t < length lists) ⊎ (length lists ≤ t)
    → i < length (offers_of c.book t)
number_by c lists t i f h (inl l) = All-contains (λ n. n < length (offers_of c.book t)) (list_of lists t) i (f.there t l) h
number_by c lists t i f h (inr l) = absurd (no_member i (subst (λ (ns : List ℕ). Contains ns i) (empty_past lists t l) h))

number_in : (c : CaseRecord) (lists : Lists) (t i : ℕ) → FitsBook lists c.book → Contains (list_of lists t) i → i < length (offers_of c.book t)
number_in c lists t i f h = number_by c lists t i f h (cases_lt t (length lists))

entries_there : (c : CaseRecord) (lists : Lists) (train : PairValue → ℕ) → FitsBook lists c.book → (xs : List PairValue) → Every (IsPairThere c) xs
    → Every (λ x. Contains (list_of lists (train x)) x.number) xs → Every (IsEntryThere c train) xs
entries_there c lists train f [] p h = tt
entries_there c lists train f (x ∷ xs) p h = (
  record { order = p.0.order; there = p.0.there; number = number_in c lists (train x) x.number f h.0 },
  entries_there c lists train f xs p.1 h.1,
)

leaf_there : (c : CaseRecord) (lists : Lists) (l : Leaf) → FitsBook lists c.book → LeafStands c lists l → IsLeafThere c l
leaf_there c lists l f s = record {
  alpha = entries_there c lists (λ x. x.first) f l.alpha (every_of_all (IsPairThere c) l.alpha s.places.alpha_pairs)
      (every_of_all (λ x. Contains (list_of lists x.first) x.number) l.alpha s.places.alpha_numbers);
  beta = entries_there c lists (λ x. x.second) f l.beta (every_of_all (IsPairThere c) l.beta s.places.beta_pairs)
      (every_of_all (λ x. Contains (list_of lists x.second) x.number) l.beta s.places.beta_numbers);
}

-- ---- splits

below_nothing : (at : ℕ) → part_below at [] ≡ []
unfolding part_below
below_nothing at = refl

train_by : (lists : Lists) (cut : Cut) → IsParted lists cut → (cut.train < length lists) ⊎ (length lists ≤ cut.train) → cut.train < length lists
train_by lists cut p (inl l) = l
train_by lists cut p (inr l) = absurd (p.below (ap (part_below cut.at) (empty_past lists cut.train l) ∙ below_nothing cut.at))

train_there : (lists : Lists) (cut : Cut) → IsParted lists cut → cut.train < length lists
train_there lists cut p = train_by lists cut p (cases_lt cut.train (length lists))

none_from : (at most : ℕ) (ns : List ℕ) → most ≤ at → Every (λ n. n < most) ns → filter (λ n. nat_le at n) ns ≡ []
none_from at most [] h e = refl
none_from at most (n ∷ ns) h e =
    let less = e.0 in
    ap (λ b. cond b (n ∷ filter (λ k. nat_le at k) ns) (filter (λ k. nat_le at k) ns)) (lt-leb at n (omega (arith, less, h))) ∙ none_from at most ns h e.1

nothing_from : (at most : ℕ) (ns : List ℕ) → most ≤ at → Every (λ n. n < most) ns → part_from at ns ≡ []
unfolding part_from
nothing_from at most ns h e = none_from at most ns h e

at_by : (c : CaseRecord) (lists : Lists) (cut : Cut) → FitsBook lists c.book → IsParted lists cut
    → (cut.at < length (offers_of c.book cut.train)) ⊎ (length (offers_of c.book cut.train) ≤ cut.at) → cut.at < length (offers_of c.book cut.train)
at_by c lists cut f p (inl l) = l
at_by c lists cut f p (inr l) =
    absurd
    (p.rest
    (nothing_from cut.at (length (offers_of c.book cut.train)) (list_of lists cut.train) l
    (every_of_all (λ n. n < length (offers_of c.book cut.train)) (list_of lists cut.train) (f.there cut.train (train_there lists cut p)))))

cut_there : (c : CaseRecord) (lists : Lists) (cut : Cut) → FitsBook lists c.book → IsParted lists cut → IsCutThere c cut
cut_there c lists cut f p = record {
  train = let l = train_there lists cut p in let e = f.trains in omega (arith, l, e);
  at = at_by c lists cut f p (cases_lt cut.at (length (offers_of c.book cut.train)));
}

-- ---- trees

abbrev pub NodeIs : (Cut → Type 0) → (Leaf → Type 0) → Node → Type 0
NodeIs P Q (SplitNode cut) = P cut
NodeIs P Q (LeafNode l) = Q l

-- what holds of each node
abbrev pub IsNodeThere : CaseRecord → Node → Type 0
IsNodeThere c node = NodeIs (IsCutThere c) (IsLeafThere c) node

pub tree_there : (c : CaseRecord) (lists : Lists) (tree : SplitTree Leaf) → FitsBook lists c.book → TreeStands c lists tree
    → Every (IsNodeThere c) (preorder LeafNode SplitNode tree)
tree_there c lists (end l) f s = (leaf_there c lists l f s, tt)
tree_there c lists (split cut a b) f s =
    let inside = train_there lists cut s.0 in (
      cut_there c lists cut f s.0,
      every-append (IsNodeThere c) (preorder LeafNode SplitNode a) (preorder LeafNode SplitNode b)
          (tree_there c (lists_below lists cut) a (below_fits c.book lists cut.train cut.at inside f) s.1)
          (tree_there c (lists_from lists cut) b (rest_fits c.book lists cut.train cut.at inside f) s.2),
    )

pub leaves_there : (c : CaseRecord) (nodes : List Node) → Every (IsNodeThere c) nodes → Every (IsLeafThere c) (leaves_of nodes)
leaves_there c [] h = tt
leaves_there c (SplitNode cut ∷ nodes) h = leaves_there c nodes h.1
leaves_there c (LeafNode l ∷ nodes) h = (h.0, leaves_there c nodes h.1)
