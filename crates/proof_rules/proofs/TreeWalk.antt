-- The records of a tree that stands lead to the state behind it.
use Rattle.std.proofs.Common.{◌≡◌, ℕ, ◌<◌, ◌≤◌, Bool, true, false, cond, not, ◌||◌, List, [], ◌∷◌, ◌++◌, length, refl, sym, ◌∙◌, ap, subst, arith, inl, inr, ◌⊎◌, None, Ok, Err, ℤ, ◌≤ℤ◌}
use Rattle.std.specs.Prelude.{◌≢◌, int_le, flat_map}
use Rattle.std.proofs.lemmas.Int.{ints}
use Rattle.std.proofs.lemmas.List.{append-nil, length-set, get_or_past}
use Rattle.std.proofs.lemmas.Bool.{cases_lt, lt-ltb}
use Rattle.patterns.specs.Allowed.{Lists, list_of, part_below, part_from}
use Rattle.pair_prices.specs.Case.{CaseRecord}
use Rattle.leaf_bounds.specs.declared.shared.SharedLeaf.{SharedLeaf}
use Rattle.leaf_bounds.specs.declared.shared.SharedNode.TheVariants.{Split as SharedSplit, Leaf as SharedLeafNode}
use Rattle.leaf_bounds.specs.declared.tree.Bound.{Bound}
use Rattle.leaf_bounds.specs.declared.tree.Bound.TheVariants.{AtLeast, Nothing as NoBound}
use Rattle.leaf_bounds.specs.declared.tree.Cut.{Cut}
use Rattle.leaf_bounds.specs.Group.{Group}
use Rattle.leaf_bounds.specs.Tree.{SplitTree, end, split, preorder, IsParted, lists_below, lists_from, tree_stands, tree_bound, lesser}
use Rattle.leaf_bounds.proofs.FindLemmas.{flat_map-append}
use Rattle.proof_file.specs.declared.record.ProofRecord.{ProofRecord}
use Rattle.proof_file.specs.declared.record.ProofRecord.TheVariants.{Split}
use Rattle.proof_file.specs.Text.{shared_node_records}
use Rattle.proof_rules.specs.Fault.{place, part, State, is_none, after}
use Rattle.proof_rules.proofs.WalkLemmas.{Goes, goes_one, goes_append}
use Rattle.proof_rules.proofs.OpenLeaves.{StandsWith}
use Rattle.proof_rules.proofs.LeafWalk.{node_state, bound_with, leaf_goes}

-- the least of bounds

le_false : (a b : ℤ) → int_le a b ≡ false → b ≤ℤ a
le_false a b e = grind (arith, ints)

le_true : (a b : ℤ) → int_le a b ≡ true → a ≤ℤ b
le_true a b e = grind (arith, ints)

true_le : (a b : ℤ) → a ≤ℤ b → int_le a b ≡ true
true_le a b h = grind (arith, ints)

least_assoc : (a b d : ℤ) (p q : Bool) → int_le a b ≡ p → int_le b d ≡ q
    → lesser (cond p (AtLeast a) (AtLeast b)) (AtLeast d) ≡ lesser (AtLeast a) (cond q (AtLeast b) (AtLeast d))
least_assoc a b d true true e f =
    let first = le_true a b e in
    let second = le_true b d f in
    let whole : int_le a d ≡ true = true_le a d (omega (arith, ints, first, second)) in
    ap (λ t. cond t (AtLeast a) (AtLeast d)) whole ∙ ap (λ t. cond t (AtLeast a) (AtLeast b)) (sym e)
least_assoc a b d true false e f = refl
least_assoc a b d false true e f =
    ap (λ t. cond t (AtLeast b) (AtLeast d)) f ∙ ap (λ t. cond t (AtLeast a) (AtLeast b)) (sym e)
least_assoc a b d false false e f = by_whole (int_le a d) refl
  where
    by_whole : (t : Bool) → int_le a d ≡ t → cond (int_le b d) (AtLeast b) (AtLeast d) ≡ cond t (AtLeast a) (AtLeast d)
    by_whole true g =
        let first = le_false a b e in
        let second = le_false b d f in
        let third = le_true a d g in
        let all : a ≡ d = omega (arith, ints, first, second, third) in
        ap (λ t. cond t (AtLeast b) (AtLeast d)) f ∙ ap (λ z. AtLeast z) (sym all)
    by_whole false g = ap (λ t. cond t (AtLeast b) (AtLeast d)) f

pub lesser_assoc : (a b d : Bound) → lesser (lesser a b) d ≡ lesser a (lesser b d)
lesser_assoc NoBound b d = refl
lesser_assoc (AtLeast n) NoBound d = refl
lesser_assoc (AtLeast n) (AtLeast m) NoBound = by_test (int_le n m)
  where
    by_test : (t : Bool) → lesser (cond t (AtLeast n) (AtLeast m)) NoBound ≡ cond t (AtLeast n) (AtLeast m)
    by_test true = refl
    by_test false = refl
lesser_assoc (AtLeast n) (AtLeast m) (AtLeast k) = least_assoc n m k (int_le n m) (int_le m k) refl refl

pub lesser_none : (a : Bound) → lesser a NoBound ≡ a
lesser_none NoBound = refl
lesser_none (AtLeast n) = refl

-- splits

some_part : (ns : List ℕ) → ns ≢ [] → is_none ns ≡ false
some_part [] h = absurd (h refl)
some_part (n ∷ ns) h = refl

train_there : (lists : Lists) (cut : Cut) → part_below cut.at (list_of lists cut.train) ≢ [] → (cut.train < length lists) ⊎ (length lists ≤ cut.train) → cut.train < length lists
unfolding part_below
train_there lists cut h (inl l) = l
train_there lists cut h (inr l) = absurd (h (ap (λ ns. part_below cut.at ns) (get_or_past lists cut.train [] l)))

module _ (c : CaseRecord) (version : ℕ) (groups : List Group) where
  split_on : (lists : Lists) (rest : List Lists) (least : Bound) (is_tree : Bool) (cut : Cut) → length lists ≡ length c.book → IsParted lists cut
      → after c (node_state version groups is_tree (lists ∷ rest) None least) (Split cut)
      ≡ Ok (node_state version groups true (lists_below lists cut ∷ lists_from lists cut ∷ rest) None least)
  unfolding after
  split_on lists rest least is_tree cut e h =
      let there = train_there lists cut h.below (cases_lt cut.train (length lists)) in
      let below = part_below cut.at (list_of lists cut.train) in
      let others = part_from cut.at (list_of lists cut.train) in
      let result = node_state version groups true (lists_below lists cut ∷ lists_from lists cut ∷ rest) None least in
      ap (λ b. cond (not b) (Err place) (cond (is_none below || is_none others) (Err part) (Ok result)))
      (lt-ltb cut.train (length c.book) (omega (arith, there, e)))
      ∙ ap (λ b. cond (b || is_none others) (Err part) (Ok result)) (some_part below h.below)
      ∙ ap (λ b. cond b (Err part) (Ok result)) (some_part others h.rest)

  abbrev tree_records : SplitTree SharedLeaf → List ProofRecord
  tree_records tree = flat_map shared_node_records (preorder SharedLeafNode SharedSplit tree)

  abbrev behind_tree : Lists → List Lists → Bound → SplitTree SharedLeaf → State
  behind_tree lists rest least tree = node_state version groups true rest None (lesser least (tree_bound (bound_with c groups) lists tree))

  pub tree_goes : (tree : SplitTree SharedLeaf) (lists : Lists) (rest : List Lists) (least : Bound) (is_tree : Bool) → length lists ≡ length c.book
      → tree_stands (StandsWith c groups) lists tree
      → Goes c (node_state version groups is_tree (lists ∷ rest) None least) (tree_records tree) (behind_tree lists rest least tree)
  tree_goes (end l) lists rest least is_tree e h =
      subst (λ (rs : List ProofRecord). Goes c (node_state version groups is_tree (lists ∷ rest) None least) rs (behind_tree lists rest least (end l)))
      (sym (append-nil (shared_node_records (SharedLeafNode l)))) (leaf_goes c version groups lists rest least l is_tree h)
  tree_goes (split cut a b) lists rest least is_tree e h =
      let below = lists_below lists cut in
      let others = lists_from lists cut in
      let s = node_state version groups is_tree (lists ∷ rest) None least in
      let s0 = node_state version groups true (below ∷ others ∷ rest) None least in
      let s1 = behind_tree below (others ∷ rest) least a in
      let least_a = lesser least (tree_bound (bound_with c groups) below a) in
      let s2 = behind_tree others rest least_a b in
      let many : length below ≡ length c.book = length-set lists cut.train (part_below cut.at (list_of lists cut.train)) ∙ e in
      let more : length others ≡ length c.book = length-set lists cut.train (part_from cut.at (list_of lists cut.train)) ∙ e in
      let g0 = goes_one c s s0 (Split cut) refl (split_on lists rest least is_tree cut e h.0) in
      let g1 = goes_append c (Split cut ∷ []) (tree_records a) s s0 s1 g0 (tree_goes a below (others ∷ rest) least true many h.1) in
      let g2 = goes_append c (Split cut ∷ tree_records a) (tree_records b) s s1 s2 g1 (tree_goes b others rest least_a true more h.2) in
      subst (λ (rs : List ProofRecord). Goes c s rs (behind_tree lists rest least (split cut a b)))
      (sym (flat_map-append shared_node_records (SharedSplit cut ∷ preorder SharedLeafNode SharedSplit a) (preorder SharedLeafNode SharedSplit b)))
      (subst (λ (d : Bound). Goes c s (Split cut ∷ tree_records a ++ tree_records b) (node_state version groups true rest None d))
      (lesser_assoc least (tree_bound (bound_with c groups) below a) (tree_bound (bound_with c groups) others b)) g2)
