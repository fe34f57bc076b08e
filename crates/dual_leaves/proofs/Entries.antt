-- Sums over the entries of a map, when the number of a key grows.
use Rattle.std.proofs.Common.{◌≡◌, Bool, true, false, cond, List, [], ◌∷◌, None, Some, Ordering, refl, ap, ◌∙◌, arith, ℤ, pos, ◌+ℤ◌, ◌≤ℤ◌}
use Rattle.std.specs.Prelude.{unwrap_or}
use Rattle.std.specs.List.{All, AllByRecursion}
use Rattle.std.specs.List.Sorted.{IsStrictlySortedBy}
use Rattle.std.specs.Map.{keys_of, values_of, lookup}
use Rattle.std.specs.BTreeMap.{insert_entry}
use Rattle.std.specs.Cmp.{IsTotalOrder}
use Rattle.std.specs.Ordering.{is_eq, match_ordering}
use Rattle.std.specs.declared.cmp.Ordering.TheVariants.{Less, Equal, Greater}
use Rattle.std.proofs.lemmas.Int.{ints}
use Rattle.std.proofs.lemmas.List.Elements.{All-head, All-tail}
use Rattle.std.proofs.lemmas.Map.Keys.{sorted_head, sorted_tail}
use Rattle.std.proofs.lemmas.Map.Lookups.{CmpEqualImpliesEq}
use Rattle.std.proofs.lemmas.Map.Views.{All-keys-insert_entry, All-values-insert_entry}
use Rattle.leaf_bounds.specs.Total.{only_if}
use Rattle.dual_leaves.specs.Sums.{summed, number_of, IsAdded}

if_sum : (b : Bool) (x y : ℤ) → only_if b (x +ℤ y) ≡ only_if b x +ℤ only_if b y
if_sum true x y = refl
if_sum false x y = refl

from_zero : (b : Bool) (v : ℤ) → only_if b (pos 0 +ℤ v) ≡ only_if b v
from_zero true v = omega (arith, ints)
from_zero false v = refl

module _ {K : Type 0} (R : K → K → Ordering) (o : IsTotalOrder R) (exact : CmpEqualImpliesEq R) where
  -- a key that is less than all keys has no number
  none_behind : (k m : K) (es : List (K × ℤ)) → R k m ≡ Less → AllByRecursion (λ y. R m y ≡ Less) (keys_of es) → lookup (λ x. is_eq (R k x)) es ≡ None
  none_behind k m [] e h = refl
  none_behind k m (f ∷ fs) e h =
      ap (λ r. cond (is_eq r) (Some f.1) (lookup (λ x. is_eq (R k x)) fs)) (o.trans k m f.0 e h.0) ∙ none_behind k m fs e h.1

  added_to : (w : K → Bool) (es : List (K × ℤ)) (k : K) (v : ℤ) → IsStrictlySortedBy R (keys_of es)
      → summed w (insert_entry R es k (number_of R es k +ℤ v)) ≡ summed w es +ℤ only_if (w k) v
  added_to w [] k v h = let e = from_zero (w k) v in omega (arith, ints, e)
  added_to w (e ∷ es) k v h =
      by (R k e.0) refl (sorted_head R e.0 (keys_of es) h) (added_to w es k v (sorted_tail R e.0 (keys_of es) h))
    where
      by : (r : Ordering) → R k e.0 ≡ r → AllByRecursion (λ y. R e.0 y ≡ Less) (keys_of es)
          → summed w (insert_entry R es k (number_of R es k +ℤ v)) ≡ summed w es +ℤ only_if (w k) v
          → summed w (match_ordering r ((k, unwrap_or (cond (is_eq r) (Some e.1) (lookup (λ x. is_eq (R k x)) es)) (pos 0) +ℤ v) ∷ e ∷ es)
          ((e.0, unwrap_or (cond (is_eq r) (Some e.1) (lookup (λ x. is_eq (R k x)) es)) (pos 0) +ℤ v) ∷ es)
          (e ∷ insert_entry R es k (unwrap_or (cond (is_eq r) (Some e.1) (lookup (λ x. is_eq (R k x)) es)) (pos 0) +ℤ v)))
          ≡ (only_if (w e.0) e.1 +ℤ summed w es) +ℤ only_if (w k) v
      by Less i least rest =
          let none = ap (λ n. only_if (w k) (unwrap_or n (pos 0) +ℤ v)) (none_behind k e.0 es i least) in
          let zero = from_zero (w k) v in
          omega (arith, ints, none, zero)
      by Equal i least rest =
          let sum = if_sum (w e.0) e.1 v in
          let same = ap (λ m. only_if (w m) v) (exact k e.0 i) in
          omega (arith, ints, sum, same)
      by Greater i least rest = omega (arith, ints, rest)

  pub added_sum : (w : K → Bool) (old new : List (K × ℤ)) (k : K) (v : ℤ) → IsAdded R old k v new → summed w new ≡ summed w old +ℤ only_if (w k) v
  added_sum w old new k v h = ap (summed w) h.is ∙ added_to w old k v h.sorted

pub added_keys : {K : Type 0} (R : K → K → Ordering) (P : K → Type 0) (old new : List (K × ℤ)) (k : K) (v : ℤ) → IsAdded R old k v new
    → P k → All P (keys_of old) → All P (keys_of new)
added_keys R P old new k v h p all =
    let same = ap (λ es. keys_of es) h.is in
    rw same (All-keys-insert_entry R k (number_of R old k +ℤ v) P old all p)

found_least : {K : Type 0} (test : K → Bool) (es : List (K × ℤ)) → All (λ z. pos 0 ≤ℤ z) (values_of es) → pos 0 ≤ℤ unwrap_or (lookup test es) (pos 0)
found_least test [] h = omega (arith, ints)
found_least test (e ∷ es) h =
    by (test e.0) (All-head (λ z. pos 0 ≤ℤ z) e.1 (values_of es) h) (found_least test es (All-tail (λ z. pos 0 ≤ℤ z) e.1 (values_of es) h))
  where
    by : (b : Bool) → pos 0 ≤ℤ e.1 → pos 0 ≤ℤ unwrap_or (lookup test es) (pos 0) → pos 0 ≤ℤ unwrap_or (cond b (Some e.1) (lookup test es)) (pos 0)
    by true h rest = h
    by false h rest = rest

pub added_least : {K : Type 0} (R : K → K → Ordering) (old new : List (K × ℤ)) (k : K) (v : ℤ) → IsAdded R old k v new
    → pos 0 ≤ℤ v → All (λ z. pos 0 ≤ℤ z) (values_of old) → All (λ z. pos 0 ≤ℤ z) (values_of new)
added_least R old new k v h p all =
    let same = ap (λ es. values_of es) h.is in
    let least = found_least (λ x. is_eq (R k x)) old all in
    rw same (All-values-insert_entry R k (number_of R old k +ℤ v) (λ z. pos 0 ≤ℤ z) old all (omega (arith, ints, least, p)))

-- sums of numbers that are not below 0
pub summed_least : {K : Type 0} (w : K → Bool) (es : List (K × ℤ)) → All (λ z. pos 0 ≤ℤ z) (values_of es) → pos 0 ≤ℤ summed w es
summed_least w [] h = omega (arith, ints)
summed_least w (e ∷ es) h =
    let here = by (w e.0) (All-head (λ z. pos 0 ≤ℤ z) e.1 (values_of es) h) in
    let rest = summed_least w es (All-tail (λ z. pos 0 ≤ℤ z) e.1 (values_of es) h) in
    omega (arith, ints, here, rest)
  where
    by : (b : Bool) → pos 0 ≤ℤ e.1 → pos 0 ≤ℤ only_if b e.1
    by true h = h
    by false h = omega (arith, ints)
