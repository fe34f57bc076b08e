-- What pairs give a train at its patterns, by the side of the pair on which the train is.
use Rattle.std.specs.Prelude.{◌≡◌, ℕ, ◌<◌, ◌≤◌, ◌==◌, ◌&&◌, Bool, List, filter, length, slice_index_or, ℤ, pos, ◌+ℤ◌, unsigned_abs}
use Rattle.leaf_bounds.specs.declared.number.PairValue.{PairValue}
use Rattle.leaf_bounds.specs.declared.leaf.Leaf.{Leaf}
use Rattle.leaf_bounds.specs.declared.potentials.Side.{Side}
use Rattle.leaf_bounds.specs.declared.potentials.Side.TheVariants.{First, Second}
use Rattle.patterns.specs.Allowed.{Lists}
use Rattle.leaf_bounds.specs.Expansion.{in_list}
use Rattle.leaf_bounds.specs.Total.{only_if, total}

abbrev pub train_on : Side → PairValue → ℕ
train_on First x = x.first
train_on Second x = x.second

-- what is listed for a train at a pattern where it is on that side of the pair
abbrev pub value_on : Side → ℕ → ℕ → PairValue → ℤ
value_on side t i x = only_if (train_on side x == t && x.number == i) x.value

-- the place of a row is the train's potentials at that pattern
abbrev pub IsRowOf : Leaf → ℕ → List ℤ → Type 0
IsRowOf l t row = (i : ℕ) → i < length row
    → slice_index_or row i (pos 0) ≡ total (value_on First t i) l.alpha +ℤ total (value_on Second t i) l.beta

-- each number of the row is at most the limit in size
abbrev pub AreWithin : ℕ → List ℤ → Type 0
AreWithin limit row = (i : ℕ) → i < length row → unsigned_abs (slice_index_or row i (pos 0)) ≤ limit

-- the entry's number is in the list of the train on that side
abbrev pub is_kept : Lists → Side → PairValue → Bool
is_kept lists side x = in_list lists (train_on side x) x.number

abbrev pub kept_entries : Lists → Side → List PairValue → List PairValue
kept_entries lists side xs = filter (is_kept lists side) xs
