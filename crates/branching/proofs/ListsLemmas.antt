-- Cuts of lists, and the parts that they make.
use Rattle.std.proofs.Common.{◌≡◌, ℕ, zero, suc, ◌<◌, ◌≤◌, Bool, true, false, cond, List, [], ◌∷◌, length, get_or, refl, sym, ap, ◌∙◌, subst, inl, inr, ◌⊎◌, arith}
use Rattle.std.specs.Prelude.{◌≢◌, nat_lt, nat_le, Contains}
use Rattle.std.specs.List.{filter}
use Rattle.std.specs.List.Sorted.{IsStrictlyIncreasing}
use Rattle.std.proofs.lemmas.Bool.{cases_eq}
use Rattle.std.proofs.lemmas.List.{get_or-set_same, get_or-set_other}
use Rattle.std.proofs.lemmas.List.Elements.{All-contains, All-contains_itself, All-filter}
use Rattle.std.proofs.lemmas.List.Kept.{AllPairs-from_increasing}
use borrow.Author.Tests.{lt-ltb, le-leb}
use Rattle.patterns.specs.Allowed.{Lists, list_of, part_below, part_from, with_list}
use Rattle.leaf_bounds.specs.declared.tree.Cut.{Cut}
use Rattle.leaf_bounds.specs.Made.{ArePartOf}
use Rattle.leaf_bounds.specs.Tree.{lists_below, lists_from}
use Rattle.branching.specs.Lists.{IsCut}

-- ---- a cut at a number of a list

some_cons : (b : Bool) (x : ℕ) (xs : List ℕ) → (b ≡ true) ⊎ (xs ≢ []) → cond b (x ∷ xs) xs ≢ []
some_cons true x xs h = λ e. cc
some_cons false x xs (inl h) = cc
some_cons false x xs (inr h) = h

some_kept : (p : ℕ → Bool) (xs : List ℕ) (k : ℕ) → k < length xs → p (get_or xs k 0) ≡ true → filter p xs ≢ []
some_kept p [] k h e = absurd (omega arith)
some_kept p (x ∷ xs) zero h e = some_cons (p x) x (filter p xs) (inl e)
some_kept p (x ∷ xs) (suc k) h e = some_cons (p x) x (filter p xs) (inr (some_kept p xs k (omega arith) e))

pub below_part : (ns : List ℕ) (place : ℕ) → IsStrictlyIncreasing ns → 1 ≤ place → place < length ns → part_below (get_or ns place 0) ns ≢ []
unfolding part_below
below_part ns place h some there =
    let less : get_or ns 0 0 < get_or ns place 0 = AllPairs-from_increasing ns h 0 place 0 (omega arith) there in
    some_kept (λ n. nat_lt n (get_or ns place 0)) ns 0 (omega arith) (lt-ltb (get_or ns 0 0) (get_or ns place 0) less)

pub from_part : (ns : List ℕ) (place : ℕ) → place < length ns → part_from (get_or ns place 0) ns ≢ []
unfolding part_from
from_part ns place there =
    some_kept (λ n. nat_le (get_or ns place 0) n) ns place there (le-leb (get_or ns place 0) (get_or ns place 0) (omega arith))

pub cut_there : (lists : Lists) (t place : ℕ) (cut : Cut) → t < length lists → IsStrictlyIncreasing (list_of lists t) → 1 ≤ place
    → place < length (list_of lists t) → cut.train ≡ t → cut.at ≡ get_or (list_of lists t) place 0 → IsCut lists cut
cut_there lists t place cut h ascends some there e f =
    subst (λ (at : ℕ). IsCut lists (record { train = cut.train; at = at })) (sym f)
    (subst (λ (s : ℕ). IsCut lists (record { train = s; at = get_or (list_of lists t) place 0 })) (sym e)
    (record {
      there = h;
      parted = record { below = below_part (list_of lists t) place ascends some there; rest = from_part (list_of lists t) place there };
    }))

-- ---- a part of the lists

kept_within : (p : ℕ → Bool) (xs : List ℕ) (i : ℕ) → Contains (filter p xs) i → Contains xs i
kept_within p xs i h = All-contains (Contains xs) (filter p xs) i (All-filter p (Contains xs) xs (All-contains_itself xs)) h

filtered_part : (lists : Lists) (s : ℕ) (p : ℕ → Bool) → s < length lists → ArePartOf (with_list lists s (filter p (list_of lists s))) lists
filtered_part lists s p h = λ t i c. by_train t i c (cases_eq t s)
  where
    by_train : (t i : ℕ) → Contains (list_of (with_list lists s (filter p (list_of lists s))) t) i → (t ≡ s) ⊎ (t ≡ s → ⊥) → Contains (list_of lists t) i
    by_train t i c (inl e) =
        let own : list_of (with_list lists s (filter p (list_of lists s))) t ≡ filter p (list_of lists s) =
        ap (list_of (with_list lists s (filter p (list_of lists s)))) e ∙ get_or-set_same lists s (filter p (list_of lists s)) [] h in
        subst (λ (k : ℕ). Contains (list_of lists k) i) (sym e) (kept_within p (list_of lists s) i (subst (λ (ns : List ℕ). Contains ns i) own c))
    by_train t i c (inr e) =
        subst (λ (ns : List ℕ). Contains ns i) (get_or-set_other lists s t (filter p (list_of lists s)) [] e) c

pub below_within : (lists : Lists) (cut : Cut) → cut.train < length lists → ArePartOf (lists_below lists cut) lists
unfolding part_below
below_within lists cut h = filtered_part lists cut.train (λ n. nat_lt n cut.at) h

pub from_within : (lists : Lists) (cut : Cut) → cut.train < length lists → ArePartOf (lists_from lists cut) lists
unfolding part_from
from_within lists cut h = filtered_part lists cut.train (λ n. nat_le cut.at n) h

default_same : (xs : Lists) (t : ℕ) (r : List ℕ) → t < length xs → get_or xs t r ≡ list_of xs t
default_same [] t r h = absurd (omega arith)
default_same (x ∷ xs) zero r h = refl
default_same (x ∷ xs) (suc t) r h = default_same xs t r (omega arith)

-- a list that was read
pub read_list : (xs ys : Lists) (t : ℕ) (r n : List ℕ) → n ≡ r → r ≡ get_or ys t r → ys ≡ xs → t < length xs → n ≡ list_of xs t
read_list xs ys t r n e f g h = e ∙ f ∙ ap (λ zs. get_or zs t r) g ∙ default_same xs t r h

pub cut_read : (lists : Lists) (t place : ℕ) (ns : List ℕ) → t < length lists → IsStrictlyIncreasing (list_of lists t) → ns ≡ list_of lists t → 1 ≤ place
    → place < length ns → IsCut lists (record { train = t; at = get_or ns place 0 })
cut_read lists t place ns h ascends e some there =
    let same : length ns ≡ length (list_of lists t) = ap length e in
    cut_there lists t place (record { train = t; at = get_or ns place 0 }) h ascends some (omega (arith, there, same)) refl (ap (λ ms. get_or ms place 0) e)
