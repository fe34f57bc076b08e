-- What the tree of a search shows at its end.
use Rattle.std.proofs.Common.{◌≡◌, ℕ, ◌+◌, ◌-◌, ◌^◌, ◌<◌, ◌≤◌, min, Bool, true, false, List, ◌∷◌, map, length, refl, sym, ap, ◌∙◌, subst, arith, ℤ, pos, ◌≤ℤ◌, Option, Some, None}
use Rattle.std.specs.Prelude.{All, count_by}
use Rattle.std.specs.List.Sorted.{IsPermutation}
use Rattle.std.proofs.lemmas.Int.{ints}
use Rattle.std.proofs.lemmas.List.Sorted.{All-permutation}
use Rattle.patterns.specs.Allowed.{Lists, full_lists}
use Rattle.pair_prices.specs.Case.{CaseRecord, IsCase}
use Rattle.pair_prices.specs.Plan.{cost}
use Rattle.leaf_bounds.specs.declared.tree.Tree.{Tree}
use Rattle.leaf_bounds.specs.declared.tree.Bound.{Bound}
use Rattle.leaf_bounds.specs.declared.tree.Bound.TheVariants.{AtLeast, Nothing}
use Rattle.leaf_bounds.specs.Laws.{KeepsTo, TreeBounds}
use Rattle.leaf_bounds.specs.Shown.{bound_of_leaf, bound_of_tree, LeafStands, TreeStands}
use Rattle.leaf_bounds.specs.Tree.{plan_count, split_count, tree_bound}
use Rattle.branching.specs.declared.found.Found.{Found}
use Rattle.branching.specs.declared.found.Found.TheVariants.{Optimal, NoPlan, Open}
use Rattle.branching.specs.declared.found.Priced.{Priced}
use Rattle.branching.specs.declared.found.Root.{Root}
use Rattle.branching.specs.declared.outline.Entry.{Entry}
use Rattle.branching.specs.declared.part.Part.{Part}
use Rattle.branching.specs.declared.waiting.Key.{Key}
use Rattle.branching.specs.Answer.{is_open, split_bound, AnswerIs, IsBelowPlan, IsLeast, IsNoPlan, IsOpen, IsOptimal, IsTreeWithin}
use Rattle.branching.specs.Bounds.{IsAtLeast}
use Rattle.branching.specs.Ended.{node_at, ArePartsOf}
use Rattle.branching.specs.Known.{is_settled, IsKnown, IsKnownPlan}
use Rattle.branching.specs.Lists.{IsUndecided}
use Rattle.branching.specs.Outline.{entries_of, is_leaf}
use Rattle.branching.specs.Searching.{bound_at, IsKeyAt, IsLeafAt, IsSearch, IsWaiting}
use Rattle.branching.proofs.KnownLemmas.{le_of}
use Rattle.branching.proofs.PlanCounts.{more_plans, two_plans}
use Rattle.branching.proofs.SearchLemmas.{key_once}
use Rattle.branching.proofs.ShapeLemmas.{leaf_found, leaf_tree, leaves_bound, leaves_splits, leaves_stand, leaves_within, least_reached, nodes_are, nothing_reached, tree_weaker, within_weaker, tree_at_least}
use Rattle.branching.proofs.StepLemmas.{at_key, counted_key, key_same, key_waits, leaf_above}

-- ---- keys in another order

waits_same : (c : CaseRecord) (part : ℕ → Part) (keys other : List Key) (lists : Lists) (slot : ℕ) → IsPermutation keys other
    → IsWaiting c part keys lists slot → IsWaiting c part other lists slot
waits_same c part keys other lists slot h w = record {
  own = w.own;
  key = let same = key_same slot keys other h in let some = w.key in omega (arith, same, some);
  open_part = w.open_part;
}

leaf_same : (c : CaseRecord) (n : ℕ) (part : ℕ → Part) (keys other : List Key) (best : Option Priced) (level : ℤ) (lists : Lists) (slot : ℕ)
    → IsPermutation keys other → IsLeafAt c n part keys best level lists slot → IsLeafAt c n part other best level lists slot
leaf_same c n part keys other best level lists slot h l = record {
  there = l.there;
  stands = l.stands;
  above = l.above;
  waits = λ u. waits_same c part keys other lists slot h (l.waits u);
}

pub search_same : (c : CaseRecord) (entries : List Entry) (parts : List Part) (keys other : List Key) (best : Option Priced) → IsPermutation keys other
    → IsSearch c entries parts keys best → IsSearch c entries parts other best
search_same c entries parts keys other best h s = record {
  tree = s.tree;
  level = s.level;
  part = s.part;
  outline = s.outline;
  slots = s.slots;
  each_part = s.each_part;
  grown = record {
    leaves = tree_weaker (IsLeafAt c (length parts) s.part keys best s.level) (IsLeafAt c (length parts) s.part other best s.level)
        (λ lists slot l. leaf_same c (length parts) s.part keys other best s.level lists slot h l) (full_lists c.book) s.tree s.grown.leaves;
    cheap = s.grown.cheap;
    each_key = All-permutation (IsKeyAt c (length parts) s.part s.level) keys other h s.grown.each_key;
    one_key = λ slot. let same = key_same slot keys other h in let one = s.grown.one_key slot in omega (arith, same, one);
  };
  count = s.count;
  known = s.known;
}

-- ---- the tree of leaves

pub own_leaves : (c : CaseRecord) (entries : List Entry) (parts : List Part) (keys : List Key) (best : Option Priced) (s : IsSearch c entries parts keys best)
    → ArePartsOf s.part parts
own_leaves c entries parts keys best s = λ slot p h. ap (λ (q : Part). q.leaf) (s.each_part slot p h)

module _ (c : CaseRecord) (entries : List Entry) (parts : List Part) (keys : List Key) (best : Option Priced) (s : IsSearch c entries parts keys best) (t : Tree)
    (same : t.nodes ≡ map (node_at s.part) entries) where
  proof_count : split_count (leaf_tree s.part s.tree) + 1 ≡ length parts
  proof_count = let a = leaves_splits s.part s.tree in let b = s.count in omega (arith, a, b)

  proof_stands : TreeStands c (full_lists c.book) (leaf_tree s.part s.tree)
  proof_stands =
      leaves_stand s.part (LeafStands c) (full_lists c.book) s.tree
      (tree_weaker (IsLeafAt c (length parts) s.part keys best s.level) (λ ns slot. LeafStands c ns (s.part slot).leaf) (λ ns slot h. h.stands)
      (full_lists c.book) s.tree s.grown.leaves)

  shown : (splits : ℕ) → length parts ≤ splits + 1 → IsTreeWithin c splits t.nodes (leaf_tree s.part s.tree)
  shown splits h = record {
    is_tree = same ∙ ap (map (node_at s.part)) s.outline ∙ nodes_are s.part s.tree;
    stands = proof_stands;
    few = let count = proof_count in omega (arith, count, h);
  }

  proof_bound : bound_of_tree c (full_lists c.book) (leaf_tree s.part s.tree) ≡ tree_bound (λ ns slot. bound_at c s.part slot) (full_lists c.book) s.tree
  proof_bound = leaves_bound s.part (bound_of_leaf c) (full_lists c.book) s.tree

-- ---- all bounds are settled

settled_at_least : (best : Option Priced) (p : Priced) (b : Bound) → best ≡ Some p → is_settled best b ≡ true → IsAtLeast p.cost b
settled_at_least None p b e h = cc
settled_at_least (Some q) p Nothing e h = tt
settled_at_least (Some q) p (AtLeast n) e h =
    let same : q ≡ p = cc in subst (λ (r : Priced). r.cost ≤ℤ n) same (le_of q.cost n h)

settled_nothing : (best : Option Priced) (b : Bound) → best ≡ None → is_settled best b ≡ true → b ≡ Nothing
settled_nothing None Nothing e h = refl
settled_nothing None (AtLeast n) e h = cc
settled_nothing (Some q) b e h = cc

bound_exact : (c : CaseRecord) (plan : List ℕ) (n : ℤ) (b : Bound) → n ≡ pos (cost c plan) → IsAtLeast n b → KeepsTo c plan b → b ≡ AtLeast n
bound_exact c plan n Nothing e h k = absurd k
bound_exact c plan n (AtLeast m) e h k = let same : m ≡ n = omega (arith, ints, e, h, k) in ap (λ z. AtLeast z) same

known_plan : (c : CaseRecord) (best : Option Priced) (p : Priced) → best ≡ Some p → IsKnown c best → IsKnownPlan c p
known_plan c best p e h = subst (IsKnown c) e h

module _ (c : CaseRecord) (entries : List Entry) (parts : List Part) (keys : List Key) (best : Option Priced) (s : IsSearch c entries parts keys best)
    (settled : All (λ k. is_settled best (AtLeast k.bound) ≡ true) keys) where
  key_settled : (slot : ℕ) → (y : Key) × (y.slot ≡ slot) × (IsKeyAt c (length parts) s.part s.level y × (is_settled best (AtLeast y.bound) ≡ true))
      → is_settled best (bound_at c s.part slot) ≡ true
  key_settled slot (y, e, both) =
      ap (λ k. is_settled best (bound_at c s.part k)) (sym e) ∙ ap (is_settled best) both.0.value ∙ both.1

  leaf_settled : (lists : Lists) (slot : ℕ) → IsLeafAt c (length parts) s.part keys best s.level lists slot → is_settled best (bound_at c s.part slot) ≡ true
  leaf_settled lists slot h = by_test (is_settled best (bound_at c s.part slot)) refl
    where
      by_test : (b : Bool) → is_settled best (bound_at c s.part slot) ≡ b → is_settled best (bound_at c s.part slot) ≡ true
      by_test true e = e
      by_test false e =
          key_settled slot
          (counted_key slot (λ k. IsKeyAt c (length parts) s.part s.level k × (is_settled best (AtLeast k.bound) ≡ true)) keys
          (λ i d l. (s.grown.each_key i d l, settled i d l)) (h.waits e).key)

  module _ (t : Tree) (r : Root) (same : t.nodes ≡ map (node_at s.part) entries) (splits : ℕ) (few : length parts ≤ splits + 1) where
    pub optimal : (p : Priced) → best ≡ Some p → IsCase c → TreeBounds → IsOptimal c splits (record { plan = p.plan; cost = p.cost; tree = t; root = r })
    optimal p e case law =
        let known = known_plan c best p e s.known in
        let feasible = known.priced.feasible in
        record {
          proof = leaf_tree s.part s.tree;
          shown = shown c entries parts keys best s t same splits few;
          feasible = feasible;
          value = known.priced.value;
          bound = bound_exact c p.plan.choice p.cost (bound_of_tree c (full_lists c.book) (leaf_tree s.part s.tree)) known.priced.value
              (subst (IsAtLeast p.cost) (sym (proof_bound c entries parts keys best s t same))
              (tree_at_least (λ ns slot. bound_at c s.part slot) p.cost (full_lists c.book) s.tree
              (tree_weaker (IsLeafAt c (length parts) s.part keys best s.level) (λ ns slot. IsAtLeast p.cost (bound_at c s.part slot))
              (λ ns slot h. settled_at_least best p (bound_at c s.part slot) e (leaf_settled ns slot h)) (full_lists c.book) s.tree s.grown.leaves)))
              (law c case (leaf_tree s.part s.tree) (proof_stands c entries parts keys best s t same) p.plan.choice feasible);
        }

    pub no_plan : best ≡ None → IsNoPlan c splits (record { tree = t; root = r })
    no_plan e = record {
      proof = leaf_tree s.part s.tree;
      shown = shown c entries parts keys best s t same splits few;
      bound = proof_bound c entries parts keys best s t same
          ∙ nothing_reached (λ ns slot. bound_at c s.part slot) (full_lists c.book) s.tree
          (tree_weaker (IsLeafAt c (length parts) s.part keys best s.level) (λ ns slot. bound_at c s.part slot ≡ Nothing)
          (λ ns slot h. settled_nothing best (bound_at c s.part slot) e (leaf_settled ns slot h)) (full_lists c.book) s.tree s.grown.leaves);
    }

-- ---- the splits are spent

below_plan : (n : ℤ) (best : Option Priced) → is_settled best (AtLeast n) ≡ false → IsBelowPlan n best
below_plan n None h = tt
below_plan n (Some p) h = grind (arith, ints)

two_of : (lists : Lists) → IsUndecided lists → 2 ≤ plan_count lists
two_of lists h = two_plans lists h.long.0 h.some h.long.1.there h.long.1.two

below_bound : (splits p : ℕ) → splits + 2 ≤ p → splits < 2 ^ 64 → splits < min (p - 1) (2 ^ 128 - 1)
below_bound splits p h l = omega arith

more_splits : (c : CaseRecord) (splits : ℕ) → splits + 2 ≤ plan_count (full_lists c.book) → splits < 2 ^ 64 → splits < split_bound c
unfolding split_bound
more_splits c splits h l = below_bound splits (plan_count (full_lists c.book)) h l

module _ (c : CaseRecord) (entries : List Entry) (parts : List Part) (keys : List Key) (x : Key) (best : Option Priced)
    (s : IsSearch c entries parts (x ∷ keys) best) (least : All (λ k. x.bound ≤ℤ k.bound) keys) (unsettled : is_settled best (AtLeast x.bound) ≡ false)
    (t : Tree) (r : Root) (same : t.nodes ≡ map (node_at s.part) entries) (splits : ℕ) (short : splits < 2 ^ 64) (spent : length parts ≡ splits + 1) where
  key_stands : 1 ≤ count_by (is_leaf x.slot) (entries_of s.tree)
  key_stands =
      let once = key_once c entries parts keys x best s least unsettled in
      let here : count_by (is_leaf x.slot) entries ≡ count_by (is_leaf x.slot) (entries_of s.tree) = ap (count_by (is_leaf x.slot)) s.outline in
      omega (arith, once, here)

  last_value : bound_of_tree c (full_lists c.book) (leaf_tree s.part s.tree) ≡ AtLeast x.bound
  last_value =
      proof_bound c entries parts (x ∷ keys) best s t same
      ∙ least_reached (λ ns slot. bound_at c s.part slot) x.bound (full_lists c.book) s.tree
      (tree_weaker (IsLeafAt c (length parts) s.part (x ∷ keys) best s.level) (λ ns slot. IsAtLeast x.bound (bound_at c s.part slot))
      (λ ns slot h. leaf_above c (length parts) s.part keys x best s.level s.tree s.grown least unsettled ns slot h) (full_lists c.book) s.tree s.grown.leaves)
      (leaf_found (IsLeafAt c (length parts) s.part (x ∷ keys) best s.level) (λ ns slot. bound_at c s.part slot ≡ AtLeast x.bound) x.slot
      (λ ns h. (at_key c (length parts) s.part keys x best s.level s.tree s.grown least unsettled).value) (full_lists c.book) s.tree s.grown.leaves key_stands)

  plans_left : split_count s.tree + 2 ≤ plan_count (full_lists c.book)
  plans_left =
      more_plans (IsLeafAt c (length parts) s.part (x ∷ keys) best s.level) (full_lists c.book) s.tree s.grown.leaves
      (leaf_found (IsLeafAt c (length parts) s.part (x ∷ keys) best s.level) (λ ns slot. 2 ≤ plan_count ns) x.slot
      (λ ns h. two_of ns (key_waits c (length parts) s.part keys x best s.level s.tree s.grown least unsettled ns h).open_part.undecided)
      (full_lists c.book) s.tree s.grown.leaves key_stands)

  pub open_answer : IsOpen c splits (record { plan = best; bound = x.bound; tree = t; root = r })
  open_answer = record {
    proof = leaf_tree s.part s.tree;
    shown = shown c entries parts (x ∷ keys) best s t same splits (omega (arith, spent));
    spent = let count = proof_count c entries parts (x ∷ keys) best s t same in omega (arith, count, spent);
    value = last_value;
    cheap = leaves_within c x.bound s.part (full_lists c.book) s.tree
        (within_weaker c s.level x.bound (at_key c (length parts) s.part keys x best s.level s.tree s.grown least unsettled).above (full_lists c.book) s.tree
        s.grown.cheap);
    more = more_splits c splits (let left = plans_left in let count = s.count in omega (arith, left, count, spent)) short;
    below = below_plan x.bound best unsettled;
    known = s.known;
  }

-- ---- what an answer says of all plans

keeps_least : (c : CaseRecord) (plan other : List ℕ) (n : ℤ) (b : Bound) → n ≡ pos (cost c plan) → b ≡ AtLeast n → KeepsTo c other b → cost c plan ≤ cost c other
keeps_least c plan other n Nothing e f k = absurd k
keeps_least c plan other n (AtLeast m) e f k = let same : m ≡ n = cc in omega (arith, ints, e, same, k)

keeps_none : (c : CaseRecord) (other : List ℕ) (b : Bound) → b ≡ Nothing → KeepsTo c other b → ⊥
keeps_none c other b e k = subst (KeepsTo c other) e k

pub least_answer : (c : CaseRecord) (splits : ℕ) (f : Found) → IsCase c → TreeBounds → AnswerIs c splits f → IsLeast c f
least_answer c splits (Optimal b) case law h =
    λ plan feasible. keeps_least c b.plan.choice plan b.cost (bound_of_tree c (full_lists c.book) h.proof) h.value h.bound
    (law c case h.proof h.shown.stands plan feasible)
least_answer c splits (NoPlan n) case law h =
    λ plan feasible. keeps_none c plan (bound_of_tree c (full_lists c.book) h.proof) h.bound (law c case h.proof h.shown.stands plan feasible)
least_answer c splits (Open o) case law h = tt

pub closed_answer : (c : CaseRecord) (splits : ℕ) (f : Found) → AnswerIs c splits f → split_bound c ≤ splits → is_open f ≡ false
closed_answer c splits (Optimal b) h l = refl
closed_answer c splits (NoPlan n) h l = refl
closed_answer c splits (Open o) h l = let more = h.more in absurd (omega (arith, more, l))
