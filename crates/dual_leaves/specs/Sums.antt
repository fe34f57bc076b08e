-- Numbers of keys, as the entries of a map have them, and their sums.
use Rattle.std.specs.Prelude.{◌≡◌, Bool, List, ℤ, pos, ◌+ℤ◌, unwrap_or}
use Rattle.std.specs.BTreeMap.{insert_entry}
use Rattle.std.specs.List.Sorted.{IsStrictlySortedBy}
use Rattle.std.specs.Map.{keys_of, lookup}
use Rattle.std.specs.Ordering.{is_eq}
use Rattle.std.specs.declared.cmp.Ordering.{Ordering}
use Rattle.leaf_bounds.specs.Total.{only_if, total}

-- the sum of the numbers of the keys that pass
abbrev pub summed : {K : Type 0} → (K → Bool) → List (K × ℤ) → ℤ
summed test entries = total (λ e. only_if (test e.0) e.1) entries

-- the number of a key, and 0 where it has none
abbrev pub number_of : {K : Type 0} → (K → K → Ordering) → List (K × ℤ) → K → ℤ
number_of cmp entries key = unwrap_or (lookup (λ k. is_eq (cmp key k)) entries) (pos 0)

-- the entries, whose keys ascend, with more at one key
pub record IsAdded {K : Type 0} (cmp : K → K → Ordering) (old : List (K × ℤ)) (key : K) (value : ℤ) (new : List (K × ℤ)) : Type 0 where
  pub sorted : IsStrictlySortedBy cmp (keys_of old)
  pub is : new ≡ insert_entry cmp old key (number_of cmp old key +ℤ value)
