-- A search at its start and after a split.
use Rattle.std.proofs.Common.{◌≡◌, ℕ, zero, suc, ◌+◌, ◌<◌, ◌==◌, false, cond, List, [], ◌∷◌, ◌++◌, length, get_or, refl, sym, ap, ◌∙◌, subst, inl, inr, ◌⊎◌, arith, ℤ, pos, ◌≤ℤ◌, Option, Some}
use Rattle.std.specs.Prelude.{All, count_by, nat_lt, slice_get, slice_set}
use Rattle.std.specs.List.Sorted.{IsPermutation}
use Rattle.std.proofs.lemmas.Bool.{cases_eq}
use Rattle.std.proofs.lemmas.Bool.Decides.{nat_tests}
use Rattle.std.proofs.lemmas.Int.{ints}
use Rattle.std.proofs.lemmas.List.{append-nil, get_or-set_same, get_or-set_other, length_push, get_or_push, get_or_append_left}
use Rattle.std.proofs.lemmas.List.Elements.{All-weaker}
use Rattle.std.proofs.lemmas.List.Sorted.{All-permutation}
use Rattle.std.proofs.lemmas.Option.{get_or_from_slice_get, slice_get-get_or, slice_get_within}
use Rattle.std.proofs.Math.ListN.{length-set}
use Rattle.patterns.specs.Allowed.{FitsBook, Lists, full_lists}
use Rattle.pair_prices.specs.Case.{CaseRecord}
use Rattle.leaf_bounds.specs.declared.tree.Bound.{Bound}
use Rattle.leaf_bounds.specs.declared.tree.Bound.TheVariants.{AtLeast, Nothing}
use Rattle.leaf_bounds.specs.Shown.{LeafStands}
use Rattle.leaf_bounds.specs.Tree.{SplitTree, end, split, lists_below, lists_from}
use Rattle.branching.specs.declared.found.Priced.{Priced}
use Rattle.branching.specs.declared.node.Children.{Children}
use Rattle.branching.specs.declared.node.Node.{Node}
use Rattle.branching.specs.declared.outline.Entry.{Entry}
use Rattle.branching.specs.declared.outline.Entry.TheVariants.{Leaf}
use Rattle.branching.specs.declared.part.Part.{Part}
use Rattle.branching.specs.declared.waiting.Key.{Key}
use Rattle.branching.specs.Bounds.{IsAtLeast}
use Rattle.branching.specs.Grown.{AreChildren}
use Rattle.branching.specs.Known.{is_settled, IsKnown, IsNoDearer}
use Rattle.branching.specs.Lists.{IsUndecided}
use Rattle.branching.specs.Node.{IsNode}
use Rattle.branching.specs.Outline.{entries_of, grown_entries, grown_tree, is_leaf}
use Rattle.branching.specs.Searching.{keys_for, AreSlots, IsGrown, IsKeyAt, IsLeafAt, IsSearch, IsWaiting}
use Rattle.branching.specs.Stored.{IsStored}
use Rattle.branching.proofs.OutlineLemmas.{count_cons, entries_grown, one_if, slots_grown, splits_grown}
use Rattle.branching.proofs.ShapeLemmas.{leaf_found, SomeLeaf}
use Rattle.branching.proofs.StepLemmas.{child_leaf, grown_more, key_same, key_waits, keys_all, keys_most, keys_own, part_new, part_other, part_own, parted}

-- ---- the start

-- a number that the bound is at least
level_of : Bound → ℤ
level_of Nothing = pos 0
level_of (AtLeast m) = m

at_level : (b : Bound) → IsAtLeast (level_of b) b
unfolding level_of
at_level Nothing = tt
at_level (AtLeast m) = omega (arith, ints)

level_is : (b : Bound) (m : ℤ) → b ≡ AtLeast m → level_of b ≤ℤ m
unfolding level_of
level_is Nothing m e = cc
level_is (AtLeast k) m e = let same : k ≡ m = cc in omega (arith, ints, same)

one_slot : AreSlots (Leaf 0 ∷ []) 1
one_slot slot = let one = count_cons slot (Leaf 0) [] in lone one
  where
    same : cond (0 == slot) 1 0 + 0 ≡ cond (nat_lt slot 1) 1 0
    same = grind (arith, nat_tests)

    lone : count_by (is_leaf slot) (Leaf 0 ∷ []) ≡ cond (is_leaf slot (Leaf 0)) 1 0 + count_by (is_leaf slot) [] → count_by (is_leaf slot) (Leaf 0 ∷ []) ≡ cond (nat_lt slot 1) 1 0
    lone e = e ∙ same

only_part : (p : Part) (slot : ℕ) (q : Part) → slice_get (p ∷ []) slot ≡ Some q → q ≡ p
only_part p zero q e = cc
only_part p (suc slot) q e = cc

module _ (c : CaseRecord) (root : Node) (best : Option Priced) (keys : List Key) (node : IsNode c (full_lists c.book) root)
    (dear : IsNoDearer root.plan best) (made : IsPermutation (keys_for best root.bound 0 0 ++ []) keys) where
  root_keys : IsPermutation (keys_for best root.bound 0 0) keys
  root_keys = subst (λ (ks : List Key). IsPermutation ks keys) (append-nil (keys_for best root.bound 0 0)) made

  grown_root : IsGrown c 1 (λ slot. root.part) keys best (level_of root.bound) (end 0)
  grown_root =
      let same = key_same 0 (keys_for best root.bound 0 0) keys root_keys in
      record {
        leaves = child_leaf c 1 (λ slot. root.part) keys best (level_of root.bound) (full_lists c.book) root root.part 0 node
            (record { leaf = refl; lists = λ u. refl }) refl (omega arith) (at_level root.bound) dear
            (λ u. let own = keys_own best root.bound 0 0 u in omega (arith, own, same));
        cheap = tt;
        each_key = All-permutation (IsKeyAt c 1 (λ slot. root.part) (level_of root.bound)) (keys_for best root.bound 0 0) keys root_keys
            (keys_all (IsKeyAt c 1 (λ slot. root.part) (level_of root.bound)) best root.bound 0 0
            (λ m e. record { there = omega arith; value = sym node.value ∙ e; above = level_is root.bound m e }));
        one_key = λ slot. let most = keys_most best root.bound 0 0 slot in
            let all = key_same slot (keys_for best root.bound 0 0) keys root_keys in omega (arith, most, all);
      }

  pub started : (entries : List Entry) (parts : List Part) → entries ≡ Leaf 0 ∷ [] → parts ≡ root.part ∷ [] → IsKnown c best → IsSearch c entries parts keys best
  started entries parts e f known = record {
    tree = end 0;
    level = level_of root.bound;
    part = λ slot. root.part;
    outline = e;
    slots = subst (λ (xs : List Entry). AreSlots xs (length parts)) (sym e) (subst (λ (ps : List Part). AreSlots (Leaf 0 ∷ []) (length ps)) (sym f) one_slot);
    each_part = λ slot q h. only_part root.part slot q (ap (λ (ps : List Part). slice_get ps slot) (sym f) ∙ h);
    grown = subst (λ (ps : List Part). IsGrown c (length ps) (λ slot. root.part) keys best (level_of root.bound) (end 0)) (sym f) grown_root;
    count = ap length f;
    known = known;
  }

-- ---- a split

-- a part that may be split
pub record IsReady (c : CaseRecord) (q : Part) : Type 0 where
  pub fits : FitsBook q.allowed.lists c.book
  pub undecided : IsUndecided q.allowed.lists
  pub stands : LeafStands c q.allowed.lists q.leaf

ready_at : (c : CaseRecord) (part : ℕ → Part) (keys : List Key) (lists : Lists) (slot : ℕ) → LeafStands c lists (part slot).leaf → IsWaiting c part keys lists slot
    → IsReady c (part slot)
ready_at c part keys lists slot stands w =
    let own = sym w.own in
    record {
      fits = subst (λ (ns : Lists). FitsBook ns c.book) own w.open_part.fits;
      undecided = subst IsUndecided own w.open_part.undecided;
      stands = subst (λ (ns : Lists). LeafStands c ns (part slot).leaf) own stands;
    }

constant_leaf : (A : Type 0) (lists : Lists) (t : SplitTree ℕ) → SomeLeaf (λ ns slot. A) lists t → A
constant_leaf A lists (end slot) h = h
constant_leaf A lists (split cut a b) (inl h) = constant_leaf A (lists_below lists cut) a h
constant_leaf A lists (split cut a b) (inr h) = constant_leaf A (lists_from lists cut) b h

-- the parts with the two sides
module _ (parts : List Part) (slot : ℕ) (low high : Part) (there : slot < length parts) where
  placed_count : length (slice_set parts slot low ++ high ∷ []) ≡ length parts + 1
  placed_count = length_push (slice_set parts slot low) high ∙ ap (λ n. n + 1) (length-set parts slot low)

  at_new : (d : Part) → get_or (slice_set parts slot low ++ high ∷ []) (length parts) d ≡ high
  at_new d = get_or_push (slice_set parts slot low) high d (length parts) (length-set parts slot low)

  at_old : (j : ℕ) (d : Part) → j < length parts → get_or (slice_set parts slot low ++ high ∷ []) j d ≡ get_or (slice_set parts slot low) j d
  at_old j d h = get_or_append_left (slice_set parts slot low) (high ∷ []) d j (let same = length-set parts slot low in omega (arith, same))

  at_slot : (d : Part) → get_or (slice_set parts slot low ++ high ∷ []) slot d ≡ low
  at_slot d = at_old slot d there ∙ get_or-set_same parts slot low d there

  at_other : (j : ℕ) (d : Part) → (j ≡ slot → ⊥) → j < length parts → get_or (slice_set parts slot low ++ high ∷ []) j d ≡ get_or parts j d
  at_other j d h l = at_old j d l ∙ get_or-set_other parts slot j low d h

module _ (c : CaseRecord) (entries : List Entry) (parts : List Part) (keys : List Key) (x : Key) (best : Option Priced)
    (s : IsSearch c entries parts (x ∷ keys) best) (least : All (λ k. x.bound ≤ℤ k.bound) keys) (unsettled : is_settled best (AtLeast x.bound) ≡ false) where
  pub key_there : x.slot < length parts
  key_there = there (s.grown.each_key 0 x (omega arith))
    where
      there : IsKeyAt c (length parts) s.part s.level x → x.slot < length parts
      there h = h.there

  below_one : (a n : ℕ) → a < n → one_if (nat_lt a n) ≡ 1
  below_one a n h = grind (arith, nat_tests)

  -- the leaf of the key stands once
  pub key_once : count_by (is_leaf x.slot) entries ≡ 1
  key_once = s.slots x.slot ∙ below_one x.slot (length parts) key_there

  ready_part : IsReady c (s.part x.slot)
  ready_part =
      constant_leaf (IsReady c (s.part x.slot)) (full_lists c.book) s.tree
      (leaf_found (IsLeafAt c (length parts) s.part (x ∷ keys) best s.level) (λ lists slot. IsReady c (s.part x.slot)) x.slot
      (λ lists h. ready_at c s.part (x ∷ keys) lists x.slot h.stands
      (key_waits c (length parts) s.part keys x best s.level s.tree s.grown least unsettled lists h))
      (full_lists c.book) s.tree s.grown.leaves (let once = key_once in let same : count_by (is_leaf x.slot) entries ≡ count_by (is_leaf x.slot) (entries_of s.tree) =
      ap (count_by (is_leaf x.slot)) s.outline in omega (arith, once, same)))

  pub key_ready : (old : Part) → slice_get parts x.slot ≡ Some old → IsReady c old
  key_ready old at = subst (IsReady c) (sym (s.each_part x.slot old at)) ready_part

  module _ (two : Children) (low high old : Part) (new : Option Priced) (some_keys new_keys : List Key) (o p : ℕ) (new_entries : List Entry) (new_parts : List Part)
      (at : slice_get parts x.slot ≡ Some old)
      (children : AreChildren c old two) (stored_low : IsStored new two.below low) (stored_high : IsStored new two.rest high)
      (dear : IsNoDearer best new) (dear_low : IsNoDearer two.below.plan new) (dear_high : IsNoDearer two.rest.plan new)
      (first_keys : IsPermutation (keys_for new two.below.bound o x.slot ++ keys) some_keys)
      (second_keys : IsPermutation (keys_for new two.rest.bound p (length parts) ++ some_keys) new_keys)
      (grown : new_entries ≡ grown_entries x.slot two.cut (length parts) entries)
      (placed : new_parts ≡ slice_set parts x.slot low ++ high ∷ []) (known : IsKnown c new) where
    abbrev after : ℕ → Part
    after = parted c (length parts) s.part keys x best s.level s.tree s.grown least unsettled low high

    more : IsGrown c (length parts + 1) (parted c (length parts) s.part keys x best s.level s.tree s.grown least unsettled low high) new_keys new x.bound
        (grown_tree x.slot two.cut (length parts) s.tree)
    more =
        grown_more c (length parts) s.part keys x best s.level s.tree s.grown least unsettled two low high new some_keys new_keys o p
        (subst (λ (q : Part). AreChildren c q two) (s.each_part x.slot old at) children) stored_low stored_high dear dear_low dear_high first_keys second_keys

    -- no key is below that of the leaf
    pub split_above : All (λ k. x.bound ≤ℤ k.bound) new_keys
    split_above = All-weaker (IsKeyAt c (length parts + 1) after x.bound) (λ (k : Key). x.bound ≤ℤ k.bound) (λ k h. h.above) new_keys more.each_key

    count_new : length new_parts ≡ length parts + 1
    count_new = ap length placed ∙ placed_count parts x.slot low high key_there

    value_new : (j : ℕ) (q : Part) → slice_get new_parts j ≡ Some q → q ≡ get_or (slice_set parts x.slot low ++ high ∷ []) j q
    value_new j q h = sym (get_or_from_slice_get new_parts j q q h) ∙ ap (λ ps. get_or ps j q) placed

    old_value : (j : ℕ) (q : Part) → j < length parts → q ≡ get_or parts j q → q ≡ s.part j
    old_value j q l e = s.each_part j q (slice_get-get_or parts j q l ∙ ap (λ (p : Part). Some p) (sym e))

    each_new_part : (j : ℕ) (q : Part) → slice_get new_parts j ≡ Some q → q ≡ after j
    each_new_part j q h = by_slot (cases_eq j x.slot) (cases_eq j (length parts))
      where
        by_slot : (j ≡ x.slot) ⊎ (j ≡ x.slot → ⊥) → (j ≡ length parts) ⊎ (j ≡ length parts → ⊥) → q ≡ after j
        by_slot (inl e) d =
            value_new j q h ∙ ap (λ k. get_or (slice_set parts x.slot low ++ high ∷ []) k q) e ∙ at_slot parts x.slot low high key_there q
            ∙ sym (ap after e ∙ part_own c (length parts) s.part keys x best s.level s.tree s.grown least unsettled low high)
        by_slot (inr d) (inl e) =
            value_new j q h ∙ ap (λ k. get_or (slice_set parts x.slot low ++ high ∷ []) k q) e ∙ at_new parts x.slot low high key_there q
            ∙ sym (ap after e ∙ part_new c (length parts) s.part keys x best s.level s.tree s.grown least unsettled low high)
        by_slot (inr d) (inr i) =
            let within = slice_get_within new_parts j q h in
            let count = count_new in
            let there : j < length parts = omega (arith, within, count, i) in
            old_value j q there (value_new j q h ∙ at_other parts x.slot low high key_there j q d there)
            ∙ sym (part_other c (length parts) s.part keys x best s.level s.tree s.grown least unsettled low high j d there)

    pub split_search : IsSearch c new_entries new_parts new_keys new
    split_search =
        let tree = grown_tree x.slot two.cut (length parts) s.tree in
        let once : count_by (is_leaf x.slot) (entries_of s.tree) ≡ 1 = ap (count_by (is_leaf x.slot)) (sym s.outline) ∙ key_once in
        let splits = splits_grown x.slot two.cut (length parts) s.tree in
        let before = s.count in
        let count = count_new in
        record {
          tree = tree;
          level = x.bound;
          part = after;
          outline = grown ∙ ap (grown_entries x.slot two.cut (length parts)) s.outline ∙ sym (entries_grown x.slot two.cut (length parts) s.tree);
          slots = subst (λ (xs : List Entry). AreSlots xs (length new_parts)) (sym grown)
              (subst (λ (n : ℕ). AreSlots (grown_entries x.slot two.cut (length parts) entries) n) (sym count_new)
              (slots_grown x.slot two.cut (length parts) entries s.slots key_once));
          each_part = each_new_part;
          grown = subst (λ (n : ℕ). IsGrown c n after new_keys new x.bound tree) (sym count_new) more;
          count = omega (arith, once, splits, before, count);
          known = known;
        }
