-- What a row of a cut on two trains gives them, place by place.
use Rattle.std.proofs.Common.{◌≡◌, ℕ, ◌+◌, ◌<◌, ◌==◌, ◌&&◌, Bool, true, false, eqb, List, length, refl, sym, ap, ◌∙◌, subst, inl, inr, ◌⊎◌, arith, ℤ, pos, neg_ℤ, ◌+ℤ◌, ◌*ℤ◌}
use Rattle.std.specs.List.Sorted.{IsStrictlyIncreasing}
use Rattle.std.specs.Prelude.{slice_index}
use Rattle.std.proofs.lemmas.Int.{ints}
use Rattle.std.proofs.lemmas.Bool.{cases_order, eq-eqb, ne_eqb}
use Rattle.std.proofs.lemmas.List.Kept.{AllPairs-from_increasing}
use borrow.Author.Tests.{eqb-true}
use Rattle.station.specs.Allowed.{numbers}
use Rattle.patterns.specs.Allowed.{list_of}
use Rattle.exact_lp.specs.declared.row.Row.{Row}
use Rattle.pattern_pricing.specs.declared.column.PairAt.{PairAt}
use Rattle.pattern_pricing.specs.Layout.{LayoutRecord, weight_column}
use Rattle.leaf_bounds.specs.Total.{only_if, total}
use Rattle.leaf_bounds.proofs.Totals.{total_at, total_none, total_numbers_next, total_numbers_same}
use Rattle.dual_leaves.specs.declared.key.PairKey.{PairKey}
use Rattle.dual_leaves.specs.declared.key.Side.{Side}
use Rattle.dual_leaves.specs.declared.key.Side.TheVariants.{First, Second}
use Rattle.std.proofs.lemmas.List.Elements.{Contains-get_or}
use Rattle.dual_leaves.specs.Account.{IsPairKey}
use Rattle.dual_leaves.specs.Kinds.{cell_of}
use Rattle.dual_leaves.specs.Sums.{summed, IsAdded}
use Rattle.dual_leaves.specs.Shares.{key_at, share_at, train_of, AreSharesAdded, IsShareAdded}
use Rattle.dual_leaves.proofs.Entries.{added_sum, added_keys}
use Rattle.dual_leaves.specs.Orders.{pair_order}
use Rattle.dual_leaves.proofs.Orders.{pair_total, pair_exact}

if_nothing : (b : Bool) (z : ℤ) → z ≡ pos 0 → only_if b z ≡ pos 0
if_nothing true z e = e
if_nothing false z e = refl

pub share_added : (old new : List (PairKey × ℤ)) (key : PairKey) (value cell share : ℤ) → IsAdded pair_order old key share new
    → share ≡ neg_ℤ (value *ℤ cell) → IsShareAdded old key value cell new
share_added old new key value cell share h e = record {
  sums = λ test. added_sum pair_order pair_total pair_exact test old new key share h ∙ ap (λ z. summed test old +ℤ only_if (test key) z) e;
  keys = λ l side p all. added_keys pair_order (IsPairKey l side) old new key share h p all;
}

pub share_none : (old : List (PairKey × ℤ)) (key : PairKey) (value cell : ℤ) → cell ≡ pos 0 → IsShareAdded old key value cell old
share_none old key value cell e = record {
  sums = λ test. nothing (summed test old) (only_if (test key) (neg_ℤ (value *ℤ cell))) (if_nothing (test key) (neg_ℤ (value *ℤ cell)) (zero value cell e));
  keys = λ l side p all. all;
}
  where
    nothing : (s d : ℤ) → d ≡ pos 0 → s ≡ s +ℤ d
    nothing s d e = omega (arith, ints, e)

    zero : (v z : ℤ) → z ≡ pos 0 → neg_ℤ (v *ℤ z) ≡ pos 0
    zero v z e = ap (λ (y : ℤ). neg_ℤ (v *ℤ y)) e ∙ none v
      where
        none : (v : ℤ) → neg_ℤ (v *ℤ pos 0) ≡ pos 0
        none v = omega (arith, ints)

module _ (l : LayoutRecord) (row : Row) (at : PairAt) (side : Side) (value : ℤ) where
  pub shares_none : (old : List (PairKey × ℤ)) → AreSharesAdded l row at side value 0 old old
  shares_none old = record { sums = λ test. nothing (summed test old); keys = λ all. all }
    where
      nothing : (s : ℤ) → s ≡ s +ℤ pos 0
      nothing s = omega (arith, ints)

  pub shares_more : (place : ℕ) (old mid new : List (PairKey × ℤ)) (key : PairKey) (cell : ℤ) → AreSharesAdded l row at side value place old mid
      → IsShareAdded mid key value cell new → key ≡ key_at l at side place → cell ≡ cell_of l row (weight_column (train_of at side) place)
      → IsPairKey l side (key_at l at side place) → AreSharesAdded l row at side value (place + 1) old new
  shares_more place old mid new key cell h s k e p = record {
    sums = λ test.
        let f : ℕ → ℤ = λ i. only_if (test (key_at l at side i)) (share_at l row at side value i) in
        let here : only_if (test key) (neg_ℤ (value *ℤ cell)) ≡ f place = λ i. only_if (test (k i)) (neg_ℤ (value *ℤ e i)) in
        joined (summed test old) (summed test mid) (summed test new) (total f (numbers place)) (f place) (total f (numbers (place + 1)))
        (only_if (test key) (neg_ℤ (value *ℤ cell))) (h.sums test) (s.sums test) here (total_numbers_next f place);
    keys = λ all. s.keys l side (subst (IsPairKey l side) (sym k) p) (h.keys all);
  }
    where
      joined : (o m n t f u g : ℤ) → m ≡ o +ℤ t → n ≡ m +ℤ g → g ≡ f → u ≡ t +ℤ f → n ≡ o +ℤ u
      joined o m n t f u g a b d e = omega (arith, ints, a, b, d, e)

pub key_there : (l : LayoutRecord) (at : PairAt) (side : Side) (place : ℕ) → at.first < at.second → at.second < length l.lists
    → place < length (list_of l.lists (train_of at side)) → IsPairKey l side (key_at l at side place)
key_there l at First place o t h = record { order = o; there = t; listed = Contains-get_or (list_of l.lists at.first) place 0 h }
key_there l at Second place o t h = record { order = o; there = t; listed = Contains-get_or (list_of l.lists at.second) place 0 h }

-- different places of an ascending list have different numbers
number_apart : (ns : List ℕ) → IsStrictlyIncreasing ns → (i j : ℕ) → i < length ns → j < length ns → (slice_index ns i == slice_index ns j) ≡ eqb j i
number_apart ns up i j h k = by (cases_order i j)
  where
    by : (i ≡ j) ⊎ ((i < j) ⊎ (j < i)) → (slice_index ns i == slice_index ns j) ≡ eqb j i
    by (inl e) = eq-eqb (slice_index ns i) (slice_index ns j) (ap (slice_index ns) e) ∙ sym (eq-eqb j i (sym e))
    by (inr (inl less)) =
        let apart = AllPairs-from_increasing ns up i j 0 less k in
        ne_eqb (slice_index ns i) (slice_index ns j) (λ e. omega (arith, apart, e)) ∙ sym (ne_eqb j i (λ e. omega (arith, less, e)))
    by (inr (inr more)) =
        let apart = AllPairs-from_increasing ns up j i 0 more h in
        ne_eqb (slice_index ns i) (slice_index ns j) (λ e. omega (arith, apart, e)) ∙ sym (ne_eqb j i (λ e. omega (arith, more, e)))

-- of all places just one has the number
one_place : (b : Bool) (ns : List ℕ) → IsStrictlyIncreasing ns → (j : ℕ) → j < length ns → (f : ℕ → ℤ)
    → total (λ i. only_if (b && (slice_index ns i == slice_index ns j)) (f i)) (numbers (length ns)) ≡ only_if b (f j)
one_place true ns up j h f =
    total_numbers_same (λ i. only_if (slice_index ns i == slice_index ns j) (f i)) (λ i. only_if (eqb j i) (f i)) (length ns)
    (λ i k. ap (λ d. only_if d (f i)) (number_apart ns up i j k h))
    ∙ total_at f j (length ns) h
one_place false ns up j h f = total_none (numbers (length ns))

-- the same, where another list is meant if the test fails
pub one_place_if : (lists : List (List ℕ)) (b : Bool) (s t : ℕ) → (b ≡ true → s ≡ t) → IsStrictlyIncreasing (list_of lists t) → (j : ℕ)
    → j < length (list_of lists t) → (f : ℕ → ℕ → ℤ)
    → total (λ i. only_if (b && (slice_index (list_of lists s) i == slice_index (list_of lists t) j)) (f s i)) (numbers (length (list_of lists s)))
    ≡ only_if b (f t j)
one_place_if lists true s t e up j h f =
    let P : ℕ → Type 0 = λ r. total (λ i. only_if (slice_index (list_of lists r) i == slice_index (list_of lists t) j) (f r i)) (numbers (length (list_of lists r))) ≡ f t j in
    subst P (sym (e refl)) (one_place true (list_of lists t) up j h (f t))
one_place_if lists false s t e up j h f = total_none (numbers (length (list_of lists s)))

pub one_place_of : (lists : List (List ℕ)) (s t : ℕ) → IsStrictlyIncreasing (list_of lists t) → (j : ℕ) → j < length (list_of lists t) → (f : ℕ → ℕ → ℤ)
    → total (λ i. only_if (s == t && (slice_index (list_of lists s) i == slice_index (list_of lists t) j)) (f s i)) (numbers (length (list_of lists s)))
    ≡ only_if (s == t) (f t j)
one_place_of lists s t up j h f = one_place_if lists (s == t) s t (eqb-true s t) up j h f
