-- Leaves taken out of their slots, in the order of the entries.
use Rattle.std.proofs.Common.{◌≡◌, ℕ, zero, suc, ◌+◌, ◌<◌, ◌≤◌, Bool, true, false, cond, List, [], ◌∷◌, ◌++◌, map, length, get_or, take, drop, refl, sym, ap, ◌∙◌, arith, Some}
use Rattle.std.specs.Prelude.{count_by, nat_lt, slice_get, slice_set}
use Rattle.std.proofs.lemmas.Bool.{eqb-false}
use Rattle.std.proofs.lemmas.Bool.Decides.{nat_tests}
use Rattle.std.proofs.lemmas.List.{map-append, take-append-le, take_all, take_more}
use Rattle.std.proofs.lemmas.List.Sums.{sum_by-drop_more}
use Rattle.std.proofs.lemmas.Option.{slice_get-get_or}
use Rattle.std.proofs.Math.ListN.{length-set}
use Rattle.leaf_bounds.specs.declared.leaf.Leaf.{Leaf as BoundLeaf}
use Rattle.leaf_bounds.specs.declared.tree.Node.{Node}
use Rattle.leaf_bounds.specs.declared.tree.Node.TheVariants.{Leaf as LeafNode}
use Rattle.branching.specs.declared.outline.Entry.{Entry}
use Rattle.branching.specs.declared.outline.Entry.TheVariants.{Leaf}
use Rattle.branching.specs.declared.part.Part.{Part}
use Rattle.branching.specs.Ended.{node_at, AreOthersKept, ArePartsOf, IsPartOf}
use Rattle.branching.specs.Outline.{is_leaf}
use Rattle.branching.specs.Searching.{AreSlots}
use Rattle.branching.proofs.OutlineLemmas.{count_cons, one_if, own_leaf}

pub leaf_own : (slot : ℕ) (e : Entry) → e ≡ Leaf slot → is_leaf slot e ≡ true
leaf_own slot e h = ap (is_leaf slot) h ∙ own_leaf slot

-- ---- one entry

pub taken_node : (part : ℕ → Part) (e : Entry) (slot : ℕ) (old : List Part) (read : Part) (l : BoundLeaf) → e ≡ Leaf slot → slot < length old
    → read ≡ get_or old slot read → l ≡ read.leaf → IsPartOf part e old → LeafNode l ≡ node_at part e
taken_node part e slot old read l h there at own parts =
    ap (λ (k : BoundLeaf). LeafNode k)
    (own ∙ parts slot read (leaf_own slot e h) (slice_get-get_or old slot read there ∙ ap (λ (p : Part). Some p) (sym at)))
    ∙ sym (ap (node_at part) h)

kept_at : (xs : List Part) (k j : ℕ) (p : Part) → (k ≡ j → ⊥) → slice_get (slice_set xs k p) j ≡ slice_get xs j
kept_at [] k j p h = refl
kept_at (x ∷ xs) zero zero p h = absurd (h refl)
kept_at (x ∷ xs) zero (suc j) p h = refl
kept_at (x ∷ xs) (suc k) zero p h = refl
kept_at (x ∷ xs) (suc k) (suc j) p h = kept_at xs k j p (λ e. h (ap suc e))

pub taken_others : (e : Entry) (slot : ℕ) (old : List Part) (p : Part) → e ≡ Leaf slot → AreOthersKept e old (slice_set old slot p)
taken_others e slot old p h = record {
  others = λ j n. kept_at old slot j p (eqb-false slot j (sym (ap (is_leaf j) h) ∙ n));
  count = length-set old slot p;
}

-- ---- all entries

at_counted : (slot : ℕ) (xs : List Entry) (i : ℕ) (d : Entry) → i < length xs → is_leaf slot (get_or xs i d) ≡ true → 1 ≤ count_by (is_leaf slot) xs
at_counted slot [] i d h e = absurd (omega arith)
at_counted slot (x ∷ xs) zero d h e =
    let own = count_cons slot x xs in let one : one_if (is_leaf slot x) ≡ 1 = ap one_if e in omega (arith, own, one)
at_counted slot (x ∷ xs) (suc i) d h e =
    let own = count_cons slot x xs in let rest = at_counted slot xs i d (omega arith) e in omega (arith, own, rest)

below_of : (slot n k : ℕ) → k ≡ cond (nat_lt slot n) 1 0 → 1 ≤ k → slot < n
below_of slot n k e h = grind (arith, nat_tests)

-- the leaf of an entry has its slot
pub slot_there : (xs : List Entry) (n i : ℕ) (d : Entry) (slot : ℕ) → AreSlots xs n → i < length xs → is_leaf slot (get_or xs i d) ≡ true → slot < n
slot_there xs n i d slot slots h e = below_of slot n (count_by (is_leaf slot) xs) (slots slot) (at_counted slot xs i d h e)

drop_most : (slot : ℕ) (xs : List Entry) (k : ℕ) → count_by (is_leaf slot) (drop k xs) ≤ count_by (is_leaf slot) xs
drop_most slot [] zero = omega arith
drop_most slot [] (suc k) = omega arith
drop_most slot (x ∷ xs) zero = omega arith
drop_most slot (x ∷ xs) (suc k) = let rest = drop_most slot xs k in let own = count_cons slot x xs in omega (arith, rest, own)

at_most_one : (b : Bool) (k : ℕ) → k ≡ cond b 1 0 → k ≤ 1
at_most_one true k e = omega (arith, e)
at_most_one false k e = omega (arith, e)

pub left_count : (slot : ℕ) (xs : List Entry) (i : ℕ) (d : Entry) → i < length xs
    → count_by (is_leaf slot) (drop i xs) ≡ cond (is_leaf slot (get_or xs i d)) 1 0 + count_by (is_leaf slot) (drop (i + 1) xs)
left_count slot xs i d h = sum_by-drop_more (λ e. cond (is_leaf slot e) 1 0) xs i d h

-- where the leaf is to come, the entry is another one
pub other_entry : (xs : List Entry) (n i : ℕ) (d : Entry) (slot : ℕ) → AreSlots xs n → i < length xs → 1 ≤ count_by (is_leaf slot) (drop (i + 1) xs)
    → is_leaf slot (get_or xs i d) ≡ false
other_entry xs n i d slot slots h l = by_test (is_leaf slot (get_or xs i d)) refl
  where
    by_test : (b : Bool) → is_leaf slot (get_or xs i d) ≡ b → is_leaf slot (get_or xs i d) ≡ false
    by_test true e =
        let one : one_if (is_leaf slot (get_or xs i d)) ≡ 1 = ap one_if e in
        let here = left_count slot xs i d h in
        let most = drop_most slot xs i in
        let all = at_most_one (nat_lt slot n) (count_by (is_leaf slot) xs) (slots slot) in
        absurd (omega (arith, one, here, most, all, l))
    by_test false e = e

-- one entry more is left
pub left_before : (xs : List Entry) (i : ℕ) (d : Entry) (slot : ℕ) → i < length xs → 1 ≤ count_by (is_leaf slot) (drop (i + 1) xs)
    → 1 ≤ count_by (is_leaf slot) (drop i xs)
left_before xs i d slot h l = let here = left_count slot xs i d h in omega (arith, here, l)

pub left_here : (xs : List Entry) (i : ℕ) (d : Entry) (slot : ℕ) → i < length xs → is_leaf slot (get_or xs i d) ≡ true → 1 ≤ count_by (is_leaf slot) (drop i xs)
left_here xs i d slot h e =
    let here = left_count slot xs i d h in
    let one : one_if (is_leaf slot (get_or xs i d)) ≡ 1 = ap one_if e in
    omega (arith, here, one)

pub mapped_more : (f : Entry → Node) (xs : List Entry) (i : ℕ) (d : Entry) (ys zs : List Node) (n : Node) → i < length xs → ys ≡ map f (take i xs)
    → zs ≡ ys ++ n ∷ [] → n ≡ f (get_or xs i d) → zs ≡ map f (take (i + 1) xs)
mapped_more f xs i d ys zs n h e g k =
    g ∙ ap (λ (ns : List Node). ns ++ n ∷ []) e ∙ ap (λ (m : Node). map f (take i xs) ++ m ∷ []) k
    ∙ sym (ap (map f) (take_more xs i d h) ∙ map-append f (take i xs) (get_or xs i d ∷ []))

written_back : (n : ℕ) (new old : List Part) → length new ≡ n → take n (new ++ drop (length new) old) ≡ new
written_back n new old long = rw (take-append-le n new (drop (length new) old) (omega arith)) (take_all n new (omega arith))

-- the parts after one entry
module _ (xs : List Entry) (n i : ℕ) (d : Entry) (before old lent new : List Part) (size : ℕ) (slots : AreSlots xs n) (there : i < length xs)
    (count : length old ≡ length before) (same : lent ≡ old) (whole : length lent ≡ size) (kept : AreOthersKept (get_or xs i d) lent new)
    (left : (slot : ℕ) → 1 ≤ count_by (is_leaf slot) (drop i xs) → slice_get old slot ≡ slice_get before slot) where
  back : take size (new ++ drop (length new) old) ≡ new
  back = written_back size new old (kept.count ∙ whole)

  pub count_after : length (take size (new ++ drop (length new) old)) ≡ length before
  count_after = ap length back ∙ kept.count ∙ ap length same ∙ count

  pub left_after : (slot : ℕ) → 1 ≤ count_by (is_leaf slot) (drop (i + 1) xs)
      → slice_get (take size (new ++ drop (length new) old)) slot ≡ slice_get before slot
  left_after slot l =
      ap (λ (ps : List Part). slice_get ps slot) back ∙ kept.others slot (other_entry xs n i d slot slots there l)
      ∙ ap (λ (ps : List Part). slice_get ps slot) same ∙ left slot (left_before xs i d slot there l)

  pub part_here : (part : ℕ → Part) → ArePartsOf part before → IsPartOf part (get_or xs i d) lent
  part_here part own slot p h g =
      own slot p (sym (ap (λ (ps : List Part). slice_get ps slot) same ∙ left slot (left_here xs i d slot there h)) ∙ g)
