-- Trees over slots: what holds of their leaves, and the trees of leaves that they are.
use Rattle.std.proofs.Common.{◌≡◌, ℕ, zero, suc, ◌+◌, ◌≤◌, ◌==◌, Bool, true, false, cond, [], ◌∷◌, ◌++◌, map, refl, sym, ap, ◌∙◌, subst, inl, inr, ◌⊎◌, arith, ℤ, pos, ◌≤ℤ◌}
use Rattle.std.specs.Prelude.{count_by, int_le}
use Rattle.std.proofs.lemmas.Int.{ints}
use Rattle.std.proofs.lemmas.List.{map-append}
use borrow.Author.Tests.{eqb-true}
use Rattle.std.proofs.lemmas.Bool.{eqb-false}
use Rattle.patterns.specs.Allowed.{Lists}
use Rattle.pair_prices.specs.Case.{CaseRecord}
use Rattle.leaf_bounds.specs.declared.leaf.Leaf.{Leaf as BoundLeaf}
use Rattle.leaf_bounds.specs.declared.tree.Cut.{Cut}
use Rattle.leaf_bounds.specs.declared.tree.Bound.{Bound}
use Rattle.leaf_bounds.specs.declared.tree.Bound.TheVariants.{AtLeast, Nothing}
use Rattle.leaf_bounds.specs.declared.tree.Node.TheVariants.{Split as SplitNode, Leaf as LeafNode}
use Rattle.leaf_bounds.specs.Tree.{SplitTree, end, split, preorder, lists_below, lists_from, IsParted, tree_stands, lesser, tree_bound, split_count}
use Rattle.branching.specs.declared.outline.Entry.TheVariants.{Split, Leaf}
use Rattle.branching.specs.declared.part.Part.{Part}
use Rattle.branching.specs.Bounds.{IsAtLeast, EachSplitIsWithin, least_sum}
use Rattle.branching.specs.Ended.{node_at}
use Rattle.branching.specs.Outline.{entries_of, is_leaf, grown_tree}
use Rattle.branching.proofs.OutlineLemmas.{count_append, count_cons}

pub tree_weaker : {L : Type 0} (P Q : Lists → L → Type 0) → ((lists : Lists) (l : L) → P lists l → Q lists l)
    → (lists : Lists) (t : SplitTree L) → tree_stands P lists t → tree_stands Q lists t
tree_weaker P Q f lists (end l) h = f lists l h
tree_weaker P Q f lists (split cut a b) h =
    (h.0, tree_weaker P Q f (lists_below lists cut) a h.1, tree_weaker P Q f (lists_from lists cut) b h.2)

pub within_weaker : {L : Type 0} (c : CaseRecord) (n m : ℤ) → n ≤ℤ m → (lists : Lists) (t : SplitTree L)
    → EachSplitIsWithin c n lists t → EachSplitIsWithin c m lists t
within_weaker c n m l lists (end k) h = tt
within_weaker c n m l lists (split cut a b) h =
    let less = h.0 in
    (omega (arith, ints, less, l), within_weaker c n m l (lists_below lists cut) a h.1, within_weaker c n m l (lists_from lists cut) b h.2)

-- ---- one leaf is split

module _ (P Q : Lists → ℕ → Type 0) (slot : ℕ) (cut : Cut) (new : ℕ)
    (other : (lists : Lists) (j : ℕ) → (j ≡ slot → ⊥) → P lists j → Q lists j)
    (own : (lists : Lists) → P lists slot → IsParted lists cut × Q (lists_below lists cut) slot × Q (lists_from lists cut) new) where
  leaf_stands : (lists : Lists) (j : ℕ) (b : Bool) → (j == slot) ≡ b → P lists j
      → tree_stands Q lists (cond b (split cut (end slot) (end new)) (end j))
  leaf_stands lists j true e h = own lists (subst (λ (k : ℕ). P lists k) (eqb-true j slot e) h)
  leaf_stands lists j false e h = other lists j (eqb-false j slot e) h

  pub grown_stands : (lists : Lists) (t : SplitTree ℕ) → tree_stands P lists t → tree_stands Q lists (grown_tree slot cut new t)
  grown_stands lists (end j) h = leaf_stands lists j (j == slot) refl h
  grown_stands lists (split c a b) h = (h.0, grown_stands (lists_below lists c) a h.1, grown_stands (lists_from lists c) b h.2)

module _ (c : CaseRecord) (P : Lists → ℕ → Type 0) (slot : ℕ) (cut : Cut) (new : ℕ) (n m : ℤ) (l : n ≤ℤ m)
    (own : (lists : Lists) → P lists slot → pos (least_sum c lists) ≤ℤ m) where
  leaf_within : (lists : Lists) (j : ℕ) (b : Bool) → (j == slot) ≡ b → P lists j
      → EachSplitIsWithin c m lists (cond b (split cut (end slot) (end new)) (end j))
  leaf_within lists j true e h = (own lists (subst (λ (k : ℕ). P lists k) (eqb-true j slot e) h), tt, tt)
  leaf_within lists j false e h = tt

  pub grown_within : (lists : Lists) (t : SplitTree ℕ) → tree_stands P lists t → EachSplitIsWithin c n lists t
      → EachSplitIsWithin c m lists (grown_tree slot cut new t)
  grown_within lists (end j) h w = leaf_within lists j (j == slot) refl h
  grown_within lists (split d a b) h w =
      let less = w.0 in
      (omega (arith, ints, less, l), grown_within (lists_below lists d) a h.1 w.1, grown_within (lists_from lists d) b h.2 w.2)

-- ---- some leaf

abbrev pub SomeLeaf : {L : Type 0} → (Lists → L → Type 0) → Lists → SplitTree L → Type 0
SomeLeaf Q lists (end l) = Q lists l
SomeLeaf Q lists (split cut a b) = SomeLeaf Q (lists_below lists cut) a ⊎ SomeLeaf Q (lists_from lists cut) b

some_of : (b : Bool) (k : ℕ) → 1 ≤ cond b 1 0 + k → k ≡ 0 → b ≡ true
some_of true k h e = refl
some_of false k h e = absurd (omega arith)

either : (m n : ℕ) → 1 ≤ m + n → (1 ≤ m) ⊎ (1 ≤ n)
either zero n h = inr (omega arith)
either (suc m) n h = inl (omega arith)

pub leaf_found : (P Q : Lists → ℕ → Type 0) (slot : ℕ) → ((lists : Lists) → P lists slot → Q lists slot)
    → (lists : Lists) (t : SplitTree ℕ) → tree_stands P lists t → 1 ≤ count_by (is_leaf slot) (entries_of t) → SomeLeaf Q lists t
leaf_found P Q slot f lists (end j) h k =
    let same = eqb-true j slot (some_of (j == slot) 0 (omega (arith, k, count_cons slot (Leaf j) [])) refl) in
    subst (λ (i : ℕ). Q lists i) (sym same) (f lists (subst (λ (i : ℕ). P lists i) same h))
leaf_found P Q slot f lists (split cut a b) h k =
    by_side (either (count_by (is_leaf slot) (entries_of a)) (count_by (is_leaf slot) (entries_of b))
    (omega (arith, k, count_cons slot (Split cut) (entries_of a ++ entries_of b), count_append slot (entries_of a) (entries_of b))))
    (λ m. leaf_found P Q slot f (lists_below lists cut) a h.1 m) (λ m. leaf_found P Q slot f (lists_from lists cut) b h.2 m)
  where
    by_side : {A B X Y : Type 0} → A ⊎ B → (A → X) → (B → Y) → X ⊎ Y
    by_side (inl x) f g = inl (f x)
    by_side (inr y) f g = inr (g y)

-- ---- the tree's bound

at_least_by : (n m k : ℤ) (b : Bool) → n ≤ℤ m → n ≤ℤ k → IsAtLeast n (cond b (AtLeast m) (AtLeast k))
at_least_by n m k true h l = h
at_least_by n m k false h l = l

lesser_at_least : (n : ℤ) (a b : Bound) → IsAtLeast n a → IsAtLeast n b → IsAtLeast n (lesser a b)
lesser_at_least n Nothing b h l = l
lesser_at_least n (AtLeast m) Nothing h l = h
lesser_at_least n (AtLeast m) (AtLeast k) h l = at_least_by n m k (int_le m k) h l

module _ {L : Type 0} (bound : Lists → L → Bound) (n : ℤ) where
  pub tree_at_least : (lists : Lists) (t : SplitTree L) → tree_stands (λ ns l. IsAtLeast n (bound ns l)) lists t → IsAtLeast n (tree_bound bound lists t)
  tree_at_least lists (end l) h = h
  tree_at_least lists (split cut a b) h =
      lesser_at_least n (tree_bound bound (lists_below lists cut) a) (tree_bound bound (lists_from lists cut) b)
      (tree_at_least (lists_below lists cut) a h.1) (tree_at_least (lists_from lists cut) b h.2)

  first_least : (m : ℤ) (b : Bool) → int_le n m ≡ b → n ≤ℤ m → cond b (AtLeast n) (AtLeast m) ≡ AtLeast n
  first_least m true e h = refl
  first_least m false e h = absurd (grind (arith, ints))

  second_least : (m : ℤ) (b : Bool) → int_le m n ≡ b → n ≤ℤ m → cond b (AtLeast m) (AtLeast n) ≡ AtLeast n
  second_least m true e h = let other : m ≤ℤ n = grind (arith, ints) in let same : m ≡ n = omega (arith, ints, h, other) in ap (λ k. AtLeast k) same
  second_least m false e h = refl

  lesser_first : (a b : Bound) → a ≡ AtLeast n → IsAtLeast n b → lesser a b ≡ AtLeast n
  lesser_first Nothing b e h = cc
  lesser_first (AtLeast k) Nothing e h = e
  lesser_first (AtLeast k) (AtLeast m) e h =
      ap (λ a. lesser a (AtLeast m)) e ∙ first_least m (int_le n m) refl h

  lesser_second : (a b : Bound) → b ≡ AtLeast n → IsAtLeast n a → lesser a b ≡ AtLeast n
  lesser_second Nothing b e h = e
  lesser_second (AtLeast m) b e h = ap (lesser (AtLeast m)) e ∙ second_least m (int_le m n) refl h

  pub least_reached : (lists : Lists) (t : SplitTree L) → tree_stands (λ ns l. IsAtLeast n (bound ns l)) lists t
      → SomeLeaf (λ ns l. bound ns l ≡ AtLeast n) lists t → tree_bound bound lists t ≡ AtLeast n
  least_reached lists (end l) h s = s
  least_reached lists (split cut a b) h (inl s) =
      lesser_first (tree_bound bound (lists_below lists cut) a) (tree_bound bound (lists_from lists cut) b)
      (least_reached (lists_below lists cut) a h.1 s) (tree_at_least (lists_from lists cut) b h.2)
  least_reached lists (split cut a b) h (inr s) =
      lesser_second (tree_bound bound (lists_below lists cut) a) (tree_bound bound (lists_from lists cut) b)
      (least_reached (lists_from lists cut) b h.2 s) (tree_at_least (lists_below lists cut) a h.1)

pub nothing_reached : {L : Type 0} (bound : Lists → L → Bound) (lists : Lists) (t : SplitTree L)
    → tree_stands (λ ns l. bound ns l ≡ Nothing) lists t → tree_bound bound lists t ≡ Nothing
nothing_reached bound lists (end l) h = h
nothing_reached bound lists (split cut a b) h =
    ap (λ x. lesser x (tree_bound bound (lists_from lists cut) b)) (nothing_reached bound (lists_below lists cut) a h.1)
    ∙ nothing_reached bound (lists_from lists cut) b h.2

-- ---- the tree of leaves

abbrev pub leaf_tree : (ℕ → Part) → SplitTree ℕ → SplitTree BoundLeaf
leaf_tree part (end slot) = end (part slot).leaf
leaf_tree part (split cut a b) = split cut (leaf_tree part a) (leaf_tree part b)

pub nodes_are : (part : ℕ → Part) (t : SplitTree ℕ) → map (node_at part) (entries_of t) ≡ preorder LeafNode SplitNode (leaf_tree part t)
nodes_are part (end slot) = refl
nodes_are part (split cut a b) =
    ap (λ xs. SplitNode cut ∷ xs) (map-append (node_at part) (entries_of a) (entries_of b))
    ∙ ap (λ xs. SplitNode cut ∷ xs ++ map (node_at part) (entries_of b)) (nodes_are part a)
    ∙ ap (λ ys. SplitNode cut ∷ preorder LeafNode SplitNode (leaf_tree part a) ++ ys) (nodes_are part b)

pub leaves_stand : (part : ℕ → Part) (P : Lists → BoundLeaf → Type 0) (lists : Lists) (t : SplitTree ℕ)
    → tree_stands (λ ns slot. P ns (part slot).leaf) lists t → tree_stands P lists (leaf_tree part t)
leaves_stand part P lists (end slot) h = h
leaves_stand part P lists (split cut a b) h =
    (h.0, leaves_stand part P (lists_below lists cut) a h.1, leaves_stand part P (lists_from lists cut) b h.2)

pub leaves_bound : (part : ℕ → Part) (bound : Lists → BoundLeaf → Bound) (lists : Lists) (t : SplitTree ℕ)
    → tree_bound bound lists (leaf_tree part t) ≡ tree_bound (λ ns slot. bound ns (part slot).leaf) lists t
leaves_bound part bound lists (end slot) = refl
leaves_bound part bound lists (split cut a b) =
    ap (λ x. lesser x (tree_bound bound (lists_from lists cut) (leaf_tree part b))) (leaves_bound part bound (lists_below lists cut) a)
    ∙ ap (lesser (tree_bound (λ ns slot. bound ns (part slot).leaf) (lists_below lists cut) a)) (leaves_bound part bound (lists_from lists cut) b)

pub leaves_splits : (part : ℕ → Part) (t : SplitTree ℕ) → split_count (leaf_tree part t) ≡ split_count t
leaves_splits part (end slot) = refl
leaves_splits part (split cut a b) =
    let first = leaves_splits part a in let second = leaves_splits part b in omega (arith, first, second)

pub leaves_within : (c : CaseRecord) (n : ℤ) (part : ℕ → Part) (lists : Lists) (t : SplitTree ℕ)
    → EachSplitIsWithin c n lists t → EachSplitIsWithin c n lists (leaf_tree part t)
leaves_within c n part lists (end slot) h = tt
leaves_within c n part lists (split cut a b) h =
    (h.0, leaves_within c n part (lists_below lists cut) a h.1, leaves_within c n part (lists_from lists cut) b h.2)
