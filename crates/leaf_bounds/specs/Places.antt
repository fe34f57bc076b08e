-- Places in the ascending lists of a leaf.
use Rattle.std.specs.Prelude.{◌≡◌, ℕ, ◌+◌, ◌*◌, ◌<◌, ◌≤◌, ◌==◌, ◌&&◌, Bool, true, List, Option, Some, None, slice_get, nat_lt, ℤ, pos, ◌≤ℤ◌, ◌<ℤ◌, int_lt}
use Rattle.path_conflicts.specs.Minutes.{is_within}
use Rattle.leaf_bounds.specs.declared.number.TrainValue.{TrainValue}
use Rattle.leaf_bounds.specs.declared.number.MinuteValue.{MinuteValue}
use Rattle.leaf_bounds.specs.declared.number.PairValue.{PairValue}
use Rattle.leaf_bounds.specs.Total.{only_if}
use Rattle.leaf_bounds.specs.Listed.{Ascends, IsMinuteValue, IsPairValue, minute_key, pair_key}

-- where a number of a pair stands in the order of the lists
abbrev pub key_at : ℕ → ℕ → ℕ → ℕ
key_at first second number = (200 * first + second) * 4096 + number

-- the entries are in their ranges, and ascend
pub record ArePairValues (xs : List PairValue) : Type 0 where
  pub each : (i : ℕ) (x : PairValue) → slice_get xs i ≡ Some x → IsPairValue x
  pub ascends : Ascends (λ x. pos (pair_key x)) xs

-- all entries before the place are below the key
abbrev pub AreBelow : List PairValue → ℕ → ℕ → Type 0
AreBelow xs key place = (k : ℕ) (x : PairValue) → k < place → slice_get xs k ≡ Some x → pair_key x < key

-- and those from it on are not
pub record IsPlace (xs : List PairValue) (key place : ℕ) : Type 0 where
  pub below : AreBelow xs key place
  pub rest : (k : ℕ) (x : PairValue) → place ≤ k → slice_get xs k ≡ Some x → key ≤ pair_key x

-- the entry, if there is one, is below the key
abbrev pub is_below : Option PairValue → ℕ → Bool
is_below None key = true
is_below (Some x) key = nat_lt (pair_key x) key

-- the entries are in their ranges, and ascend
pub record AreMinuteValues (xs : List MinuteValue) : Type 0 where
  pub each : (i : ℕ) (x : MinuteValue) → slice_get xs i ≡ Some x → IsMinuteValue x
  pub ascends : Ascends minute_key xs

-- all entries before the place are below the key, and those from it on are not
pub record IsMinutePlace (xs : List MinuteValue) (key : ℤ) (place : ℕ) : Type 0 where
  pub below : (k : ℕ) (x : MinuteValue) → k < place → slice_get xs k ≡ Some x → minute_key x <ℤ key
  pub rest : (k : ℕ) (x : MinuteValue) → place ≤ k → slice_get xs k ≡ Some x → key ≤ℤ minute_key x

-- a train's own number
abbrev pub train_value : ℕ → TrainValue → ℤ
train_value t x = only_if (x.train == t) x.value

-- what is listed for a platform in the minutes from `start` up to `end`, which is left out
abbrev pub value_within : ℕ → ℤ → ℤ → MinuteValue → ℤ
value_within platform start end x = only_if (x.platform == platform && is_within start end x.minute) x.value

-- what is listed below a key
abbrev pub value_below : ℤ → MinuteValue → ℤ
value_below key x = only_if (int_lt (minute_key x) key) x.value
