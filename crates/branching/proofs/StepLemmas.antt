-- One split of a search.
use Rattle.std.proofs.Common.{◌≡◌, ℕ, zero, suc, ◌+◌, ◌<◌, ◌≤◌, ◌==◌, Bool, true, false, cond, List, [], ◌∷◌, ◌++◌, get_or, refl, sym, ap, ◌∙◌, subst, inl, inr, ◌⊎◌, arith, ℤ, pos, ◌≤ℤ◌, Option}
use Rattle.std.specs.Prelude.{All, count_by}
use Rattle.std.specs.List.Sorted.{IsPermutation}
use Rattle.std.proofs.lemmas.Bool.{eq-eqb, eqb-true, ne_eqb, cases_eq}
use Rattle.std.proofs.lemmas.Int.{ints}
use Rattle.std.proofs.lemmas.List.Elements.{All-nil, All-cons, All-head, All-tail, All-append}
use Rattle.std.proofs.lemmas.List.Sorted.{All-permutation, sum_by-IsPermutation}
use Rattle.std.proofs.lemmas.List.Sums.{sum_by-cons, sum_by-append}
use Rattle.patterns.specs.Allowed.{Lists, full_lists}
use Rattle.pair_prices.specs.Case.{CaseRecord}
use Rattle.leaf_bounds.specs.declared.leaf.Leaf.{Leaf}
use Rattle.leaf_bounds.specs.declared.tree.Bound.{Bound}
use Rattle.leaf_bounds.specs.declared.tree.Bound.TheVariants.{AtLeast, Nothing}
use Rattle.leaf_bounds.specs.Leaf.{bound_of}
use Rattle.leaf_bounds.specs.Shown.{numbers_of, LeafStands}
use Rattle.leaf_bounds.specs.Tree.{SplitTree, IsParted, lists_below, lists_from}
use Rattle.branching.specs.declared.found.Priced.{Priced}
use Rattle.branching.specs.declared.node.Children.{Children}
use Rattle.branching.specs.declared.node.Node.{Node}
use Rattle.branching.specs.declared.part.Part.{Part}
use Rattle.branching.specs.declared.waiting.Key.{Key}
use Rattle.branching.specs.Bounds.{IsAtLeast, least_sum}
use Rattle.branching.specs.Grown.{AreChildren}
use Rattle.branching.specs.Known.{is_settled, IsNoDearer}
use Rattle.branching.specs.Node.{IsNode, IsOpenPart}
use Rattle.branching.specs.Outline.{grown_tree}
use Rattle.branching.specs.Searching.{bound_at, is_key_of, keys_for, IsGrown, IsKeyAt, IsLeafAt, IsWaiting}
use Rattle.branching.specs.Stored.{IsStored}
use Rattle.branching.proofs.KnownLemmas.{no_less_step, settled_above, unsettled_before}
use Rattle.branching.proofs.OutlineLemmas.{one_if}
use Rattle.branching.proofs.ShapeLemmas.{grown_stands, grown_within}

-- ---- counted keys

abbrev pub key_count : ℕ → List Key → ℕ
key_count slot keys = count_by (is_key_of slot) keys

pub key_cons : (slot : ℕ) (x : Key) (keys : List Key) → key_count slot (x ∷ keys) ≡ cond (x.slot == slot) 1 0 + key_count slot keys
key_cons slot x keys = sum_by-cons (λ k. cond (is_key_of slot k) 1 0) x keys

pub key_append : (slot : ℕ) (xs ys : List Key) → key_count slot (xs ++ ys) ≡ key_count slot xs + key_count slot ys
key_append slot xs ys = sum_by-append (λ k. cond (is_key_of slot k) 1 0) xs ys

pub key_same : (slot : ℕ) (xs ys : List Key) → IsPermutation xs ys → key_count slot ys ≡ key_count slot xs
key_same slot xs ys h = sum_by-IsPermutation (λ k. cond (is_key_of slot k) 1 0) xs ys h

-- a key that is counted
pub counted_key : (slot : ℕ) (Q : Key → Type 0) (keys : List Key) → All Q keys → 1 ≤ key_count slot keys → (y : Key) × (y.slot ≡ slot) × Q y
counted_key slot Q [] all h = absurd (omega (arith, h))
counted_key slot Q (x ∷ keys) all h =
    by_test (x.slot == slot) refl (λ k. counted_key slot Q keys (All-tail Q x keys all) k)
  where
    by_test : (b : Bool) → (x.slot == slot) ≡ b → (1 ≤ key_count slot keys → (y : Key) × (y.slot ≡ slot) × Q y) → (y : Key) × (y.slot ≡ slot) × Q y
    by_test true e rest = (x, eqb-true x.slot slot e, All-head Q x keys all)
    by_test false e rest =
        let own = key_cons slot x keys in
        let none : one_if (x.slot == slot) ≡ 0 = ap one_if e in
        rest (omega (arith, own, none, h))

-- where none is counted, no key is of the slot
none_counted : (slot : ℕ) (keys : List Key) → key_count slot keys ≡ 0 → All (λ k. k.slot ≡ slot → ⊥) keys
none_counted slot [] h = All-nil (λ (k : Key). k.slot ≡ slot → ⊥)
none_counted slot (x ∷ keys) h =
    let own = key_cons slot x keys in
    All-cons (λ (k : Key). k.slot ≡ slot → ⊥) x keys
    (λ e. let one : one_if (x.slot == slot) ≡ 1 = ap one_if (eq-eqb x.slot slot e) in omega (arith, own, h, one))
    (none_counted slot keys (omega (arith, own, h)))

-- ---- the key of a part

made_count : (slot s : ℕ) (m : ℤ) (o : ℕ) (b : Bool)
    → key_count s (cond b [] (record { bound = m; order = o; slot = slot } ∷ [])) ≡ cond b 0 (cond (slot == s) 1 0)
made_count slot s m o true = refl
made_count slot s m o false = let one = key_cons s (record { bound = m; order = o; slot = slot }) [] in omega (arith, one)

keys_count : (best : Option Priced) (b : Bound) (o slot s : ℕ) → key_count s (keys_for best b o slot) ≡ cond (is_settled best b) 0 (cond (slot == s) 1 0)
keys_count best Nothing o slot s = refl
keys_count best (AtLeast m) o slot s = made_count slot s m o (is_settled best (AtLeast m))

at_most_one : (b d : Bool) → cond b 0 (cond d 1 0) ≤ 1
at_most_one true d = omega arith
at_most_one false true = omega arith
at_most_one false false = omega arith

pub keys_most : (best : Option Priced) (b : Bound) (o slot s : ℕ) → key_count s (keys_for best b o slot) ≤ 1
keys_most best b o slot s =
    let one = keys_count best b o slot s in let most = at_most_one (is_settled best b) (slot == s) in omega (arith, one, most)

none_at : (b d : Bool) → d ≡ false → ◌≡◌ {A = ℕ} (cond b 0 (cond d 1 0)) 0
none_at true d e = refl
none_at false true e = cc
none_at false false e = refl

pub keys_other : (best : Option Priced) (b : Bound) (o slot s : ℕ) → (slot ≡ s → ⊥) → key_count s (keys_for best b o slot) ≡ 0
keys_other best b o slot s h = keys_count best b o slot s ∙ none_at (is_settled best b) (slot == s) (ne_eqb slot s h)

one_at : (b d : Bool) → b ≡ false → d ≡ true → ◌≡◌ {A = ℕ} (cond b 0 (cond d 1 0)) 1
one_at true d e f = cc
one_at false true e f = refl
one_at false false e f = cc

pub keys_own : (best : Option Priced) (b : Bound) (o slot : ℕ) → is_settled best b ≡ false → key_count slot (keys_for best b o slot) ≡ 1
keys_own best b o slot h = keys_count best b o slot slot ∙ one_at (is_settled best b) (slot == slot) h (eq-eqb slot slot refl)

made_all : (P : Key → Type 0) (k : Key) (b : Bool) → P k → All P (cond b [] (k ∷ []))
made_all P k true h = All-nil P
made_all P k false h = All-cons P k [] h (All-nil P)

pub keys_all : (P : Key → Type 0) (best : Option Priced) (b : Bound) (o slot : ℕ)
    → ((m : ℤ) → b ≡ AtLeast m → P (record { bound = m; order = o; slot = slot })) → All P (keys_for best b o slot)
keys_all P best Nothing o slot h = All-nil P
keys_all P best (AtLeast m) o slot h = made_all P (record { bound = m; order = o; slot = slot }) (is_settled best (AtLeast m)) (h m refl)

-- ---- a leaf that was made

pub child_leaf : (c : CaseRecord) (slots : ℕ) (part : ℕ → Part) (keys : List Key) (best : Option Priced) (level : ℤ) (lists : Lists) (m : Node) (p : Part) (slot : ℕ)
    → IsNode c lists m → IsStored best m p → part slot ≡ p → slot < slots → IsAtLeast level m.bound → IsNoDearer m.plan best
    → (is_settled best m.bound ≡ false → 1 ≤ key_count slot keys) → IsLeafAt c slots part keys best level lists slot
child_leaf c slots part keys best level lists m p slot node stored at there above dear key =
    let leaf : (part slot).leaf ≡ m.part.leaf = ap (λ (q : Part). q.leaf) at ∙ stored.leaf in
    let value : bound_at c part slot ≡ m.bound = ap (λ (l : Leaf). bound_of c (numbers_of l)) leaf ∙ sym node.value in
    record {
      there = there;
      stands = subst (LeafStands c lists) (sym leaf) node.stands;
      above = subst (IsAtLeast level) (sym value) above;
      waits = λ u.
          let open_here : is_settled best m.bound ≡ false = subst (λ (b : Bound). is_settled best b ≡ false) value u in
          record {
            own = ap (λ (q : Part). q.allowed.lists) at ∙ ap (λ a. a.lists) (stored.lists open_here) ∙ node.own;
            key = key open_here;
            open_part = subst (IsOpenPart c lists) (sym value) (node.open_part (unsettled_before m.plan best m.bound dear open_here));
          };
    }

-- ---- the least key

module _ (c : CaseRecord) (n : ℕ) (part : ℕ → Part) (keys : List Key) (x : Key) (best : Option Priced) (level : ℤ) (tree : SplitTree ℕ)
    (g : IsGrown c n part (x ∷ keys) best level tree) (least : All (λ k. x.bound ≤ℤ k.bound) keys) (unsettled : is_settled best (AtLeast x.bound) ≡ false) where
  pub at_key : IsKeyAt c n part level x
  at_key = All-head (IsKeyAt c n part level) x keys g.each_key

  all_least : All (λ k. x.bound ≤ℤ k.bound) (x ∷ keys)
  all_least = All-cons (λ (k : Key). x.bound ≤ℤ k.bound) x keys (omega (arith, ints)) least

  key_above : (slot : ℕ) → (y : Key) × (y.slot ≡ slot) × (IsKeyAt c n part level y × (x.bound ≤ℤ y.bound)) → IsAtLeast x.bound (bound_at c part slot)
  key_above slot (y, e, both) =
      subst (IsAtLeast x.bound) (sym (ap (bound_at c part) (sym e) ∙ both.0.value)) both.1

  -- each leaf says at least what the key says
  pub leaf_above : (lists : Lists) (slot : ℕ) → IsLeafAt c n part (x ∷ keys) best level lists slot → IsAtLeast x.bound (bound_at c part slot)
  leaf_above lists slot h = by_settled (is_settled best (bound_at c part slot)) refl
    where
      by_settled : (b : Bool) → is_settled best (bound_at c part slot) ≡ b → IsAtLeast x.bound (bound_at c part slot)
      by_settled true e = settled_above best (bound_at c part slot) x.bound e unsettled
      by_settled false e =
          key_above slot
          (counted_key slot (λ k. IsKeyAt c n part level k × (x.bound ≤ℤ k.bound)) (x ∷ keys) (λ i d l. (g.each_key i d l, all_least i d l)) (h.waits e).key)

  -- the leaf of the key waits
  pub key_waits : (lists : Lists) → IsLeafAt c n part (x ∷ keys) best level lists x.slot → IsWaiting c part (x ∷ keys) lists x.slot
  key_waits lists h = h.waits (subst (λ (b : Bound). is_settled best b ≡ false) (sym at_key.value) unsettled)

  -- the parts, with two sides in the place of the leaf's
  abbrev pub parted : Part → Part → ℕ → Part
  parted low high j = cond (j == x.slot) low (cond (j == n) high (part j))

  first_of : (b : Bool) (p q : Part) → b ≡ true → cond b p q ≡ p
  first_of true p q e = refl
  first_of false p q e = cc

  second_of : (b : Bool) (p q : Part) → b ≡ false → cond b p q ≡ q
  second_of true p q e = cc
  second_of false p q e = refl

  pub part_own : (low high : Part) → parted low high x.slot ≡ low
  part_own low high = first_of (x.slot == x.slot) low (cond (x.slot == n) high (part x.slot)) (eq-eqb x.slot x.slot refl)

  pub part_new : (low high : Part) → parted low high n ≡ high
  part_new low high =
      second_of (n == x.slot) low (cond (n == n) high (part n)) (ne_eqb n x.slot (λ e. let there = at_key.there in omega (arith, there)))
      ∙ first_of (n == n) high (part n) (eq-eqb n n refl)

  pub part_other : (low high : Part) (j : ℕ) → (j ≡ x.slot → ⊥) → j < n → parted low high j ≡ part j
  part_other low high j h l =
      second_of (j == x.slot) low (cond (j == n) high (part j)) (ne_eqb j x.slot h)
      ∙ second_of (j == n) high (part j) (ne_eqb j n (λ e. omega arith))

  module _ (two : Children) (low high : Part) (new : Option Priced) (some_keys new_keys : List Key) (o p : ℕ)
      (children : AreChildren c (part x.slot) two) (stored_low : IsStored new two.below low) (stored_high : IsStored new two.rest high)
      (dear : IsNoDearer best new) (dear_low : IsNoDearer two.below.plan new) (dear_high : IsNoDearer two.rest.plan new)
      (first_keys : IsPermutation (keys_for new two.below.bound o x.slot ++ keys) some_keys)
      (second_keys : IsPermutation (keys_for new two.rest.bound p n ++ some_keys) new_keys) where
    counts : (s : ℕ) → key_count s new_keys ≡ key_count s (keys_for new two.rest.bound p n) + (key_count s (keys_for new two.below.bound o x.slot) + key_count s keys)
    counts s =
        key_same s (keys_for new two.rest.bound p n ++ some_keys) new_keys second_keys
        ∙ key_append s (keys_for new two.rest.bound p n) some_keys
        ∙ ap (λ k. key_count s (keys_for new two.rest.bound p n) + k)
        (key_same s (keys_for new two.below.bound o x.slot ++ keys) some_keys first_keys ∙ key_append s (keys_for new two.below.bound o x.slot) keys)

    own_cons : key_count x.slot (x ∷ keys) ≡ 1 + key_count x.slot keys
    own_cons = key_cons x.slot x keys ∙ ap (λ b. cond b 1 0 + key_count x.slot keys) (eq-eqb x.slot x.slot refl)

    -- no other key is of the slot
    own_none : key_count x.slot keys ≡ 0
    own_none = let most = g.one_key x.slot in let own = own_cons in omega (arith, most, own)

    other_cons : (j : ℕ) → (j ≡ x.slot → ⊥) → key_count j (x ∷ keys) ≡ key_count j keys
    other_cons j h =
        key_cons j x keys ∙ ap (λ b. cond b 1 0 + key_count j keys) (ne_eqb x.slot j (λ e. h (sym e))) ∙ plus (key_count j keys)
      where
        plus : (k : ℕ) → 0 + k ≡ k
        plus k = omega arith

    after : ℕ → Part
    after = parted low high

    other_leaf : (lists : Lists) (j : ℕ) → (j ≡ x.slot → ⊥) → IsLeafAt c n part (x ∷ keys) best level lists j
        → IsLeafAt c (n + 1) (parted low high) new_keys new x.bound lists j
    other_leaf lists j h leaf =
        let same = part_other low high j h leaf.there in
        let there = leaf.there in
        record {
          there = omega (arith, there);
          stands = subst (λ (q : Part). LeafStands c lists q.leaf) (sym same) leaf.stands;
          above = subst (λ (q : Part). IsAtLeast x.bound (bound_of c (numbers_of q.leaf))) (sym same) (leaf_above lists j leaf);
          waits = λ u.
              let open_here = subst (λ (q : Part). is_settled new (bound_of c (numbers_of q.leaf)) ≡ false) same u in
              let w = leaf.waits (unsettled_before best new (bound_at c part j) dear open_here) in
              let some = w.key in
              let cons = other_cons j h in
              let all = counts j in
              record {
                own = ap (λ (q : Part). q.allowed.lists) same ∙ w.own;
                key = omega (arith, some, cons, all);
                open_part = subst (λ (q : Part). IsOpenPart c lists (bound_of c (numbers_of q.leaf))) (sym same) w.open_part;
              };
        }

    low_leaf : IsLeafAt c (n + 1) (parted low high) new_keys new x.bound (lists_below (part x.slot).allowed.lists two.cut) x.slot
    low_leaf =
        child_leaf c (n + 1) (parted low high) new_keys new x.bound (lists_below (part x.slot).allowed.lists two.cut) two.below low x.slot children.below stored_low
        (part_own low high) (let there = at_key.there in omega (arith, there))
        (no_less_step x.bound (bound_at c part x.slot) two.below.bound at_key.value children.above_below) dear_low
        (λ u. let own = keys_own new two.below.bound o x.slot u in let all = counts x.slot in omega (arith, own, all))

    high_leaf : IsLeafAt c (n + 1) (parted low high) new_keys new x.bound (lists_from (part x.slot).allowed.lists two.cut) n
    high_leaf =
        child_leaf c (n + 1) (parted low high) new_keys new x.bound (lists_from (part x.slot).allowed.lists two.cut) two.rest high n children.rest stored_high
        (part_new low high) (omega arith)
        (no_less_step x.bound (bound_at c part x.slot) two.rest.bound at_key.value children.above_rest) dear_high
        (λ u. let own = keys_own new two.rest.bound p n u in let all = counts n in omega (arith, own, all))

    own_leaves : (lists : Lists) → IsLeafAt c n part (x ∷ keys) best level lists x.slot
        → IsParted lists two.cut × IsLeafAt c (n + 1) (parted low high) new_keys new x.bound (lists_below lists two.cut) x.slot
        × IsLeafAt c (n + 1) (parted low high) new_keys new x.bound (lists_from lists two.cut) n
    own_leaves lists h =
        subst (λ (ns : Lists). IsParted ns two.cut × IsLeafAt c (n + 1) (parted low high) new_keys new x.bound (lists_below ns two.cut) x.slot
        × IsLeafAt c (n + 1) (parted low high) new_keys new x.bound (lists_from ns two.cut) n) (key_waits lists h).own (children.is_cut.parted, low_leaf, high_leaf)

    own_cheap : (lists : Lists) → IsLeafAt c n part (x ∷ keys) best level lists x.slot → pos (least_sum c lists) ≤ℤ x.bound
    own_cheap lists h = subst (IsAtLeast (pos (least_sum c lists))) at_key.value (key_waits lists h).open_part.plain

    old_key : (k : Key) → IsKeyAt c n part level k → (k.slot ≡ x.slot → ⊥) → x.bound ≤ℤ k.bound → IsKeyAt c (n + 1) (parted low high) x.bound k
    old_key k at other l =
        let there = at.there in
        record {
          there = omega (arith, there);
          value = ap (λ (q : Part). bound_of c (numbers_of q.leaf)) (part_other low high k.slot other at.there) ∙ at.value;
          above = l;
        }

    new_key : (m : Node) (q : Part) (slot order : ℕ) (lists : Lists) → IsNode c lists m → IsStored new m q → parted low high slot ≡ q → slot < n + 1
        → IsAtLeast x.bound m.bound → (k : ℤ) → m.bound ≡ AtLeast k → IsKeyAt c (n + 1) (parted low high) x.bound (record { bound = k; order = order; slot = slot })
    new_key m q slot order lists node stored at there above k e = record {
      there = there;
      value = ap (λ (l : Leaf). bound_of c (numbers_of l)) (ap (λ (r : Part). r.leaf) at ∙ stored.leaf) ∙ sym node.value ∙ e;
      above = subst (IsAtLeast x.bound) e above;
    }

    old_keys : All (IsKeyAt c (n + 1) (parted low high) x.bound) keys
    old_keys =
        let others = none_counted x.slot keys own_none in
        let each = All-tail (IsKeyAt c n part level) x keys g.each_key in
        λ i d l. old_key (get_or keys i d) (each i d l) (others i d l) (least i d l)

    each_new : All (IsKeyAt c (n + 1) (parted low high) x.bound) new_keys
    each_new =
        let P : Key → Type 0 = IsKeyAt c (n + 1) (parted low high) x.bound in
        let there = at_key.there in
        All-permutation P (keys_for new two.rest.bound p n ++ some_keys) new_keys second_keys
        (All-append P (keys_for new two.rest.bound p n) some_keys
        (keys_all P new two.rest.bound p n
        (new_key two.rest high n p (lists_from (part x.slot).allowed.lists two.cut) children.rest stored_high (part_new low high) (omega arith)
        (no_less_step x.bound (bound_at c part x.slot) two.rest.bound at_key.value children.above_rest)))
        (All-permutation P (keys_for new two.below.bound o x.slot ++ keys) some_keys first_keys
        (All-append P (keys_for new two.below.bound o x.slot) keys
        (keys_all P new two.below.bound o x.slot
        (new_key two.below low x.slot o (lists_below (part x.slot).allowed.lists two.cut) children.below stored_low (part_own low high) (omega (arith, there))
        (no_less_step x.bound (bound_at c part x.slot) two.below.bound at_key.value children.above_below)))
        old_keys)))

    -- no old key is of the new slot
    new_none : key_count n keys ≡ 0
    new_none = by_count (key_count n keys) refl
      where
        by_count : (k : ℕ) → key_count n keys ≡ k → key_count n keys ≡ 0
        by_count zero e = e
        by_count (suc k) e =
            let y = counted_key n (IsKeyAt c n part level) keys (All-tail (IsKeyAt c n part level) x keys g.each_key) (omega (arith, e)) in
            let there = y.2.there in
            let at = y.1 in
            absurd (omega (arith, there, at))

    one_new : (s : ℕ) → key_count s new_keys ≤ 1
    one_new s = by_slot (cases_eq s x.slot) (cases_eq s n)
      where
        by_slot : (s ≡ x.slot) ⊎ (s ≡ x.slot → ⊥) → (s ≡ n) ⊎ (s ≡ n → ⊥) → key_count s new_keys ≤ 1
        by_slot (inl e) d =
            let there = at_key.there in
            let high_none = keys_other new two.rest.bound p n x.slot (λ f. omega (arith, there, f)) in
            let low_most = keys_most new two.below.bound o x.slot x.slot in
            let none = own_none in
            let all = counts x.slot in
            let here : key_count s new_keys ≡ key_count x.slot new_keys = ap (λ t. key_count t new_keys) e in
            omega (arith, high_none, low_most, none, all, here)
        by_slot (inr h) (inl e) =
            let there = at_key.there in
            let low_none = keys_other new two.below.bound o x.slot n (λ f. omega (arith, there, f)) in
            let high_most = keys_most new two.rest.bound p n n in
            let none = new_none in
            let all = counts n in
            let here : key_count s new_keys ≡ key_count n new_keys = ap (λ t. key_count t new_keys) e in
            omega (arith, low_none, high_most, none, all, here)
        by_slot (inr h) (inr i) =
            let low_none = keys_other new two.below.bound o x.slot s (λ f. h (sym f)) in
            let high_none = keys_other new two.rest.bound p n s (λ f. i (sym f)) in
            let most = g.one_key s in
            let cons = other_cons s h in
            let all = counts s in
            omega (arith, low_none, high_none, most, cons, all)

    pub grown_more : IsGrown c (n + 1) (parted low high) new_keys new x.bound (grown_tree x.slot two.cut n tree)
    grown_more = record {
      leaves = grown_stands (IsLeafAt c n part (x ∷ keys) best level) (IsLeafAt c (n + 1) (parted low high) new_keys new x.bound) x.slot two.cut n
          other_leaf own_leaves (full_lists c.book) tree g.leaves;
      cheap = grown_within c (IsLeafAt c n part (x ∷ keys) best level) x.slot two.cut n level x.bound at_key.above own_cheap (full_lists c.book) tree g.leaves g.cheap;
      each_key = each_new;
      one_key = one_new;
    }
