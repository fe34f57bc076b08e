-- The potentials that a checker holds of an open leaf, on one side of its pairs: at each pattern the sum of what the leaf lists and
-- of what its uses add.
use Rattle.std.specs.Prelude.{◌≡◌, ℕ, ◌<◌, ◌≤◌, Bool, true, not, List, filter, length, slice_get, Option, Some, None, Result, Ok, Err, ℤ, pos, ◌+ℤ◌, ◌*ℤ◌}
use Rattle.std.specs.Ordering.{nat_cmp, int_eq}
use Rattle.std.specs.BTreeMap.{BTreeMap, get, values, IsOrdered}
use Rattle.std.specs.List.Sorted.{IsStrictlyIncreasing}
use Rattle.patterns.specs.Allowed.{Lists, list_of}
use Rattle.pair_prices.specs.Trains.{TrainPair}
use Rattle.leaf_bounds.specs.declared.number.NumberValue.{NumberValue}
use Rattle.leaf_bounds.specs.declared.number.PairValue.{PairValue}
use Rattle.leaf_bounds.specs.Group.{Group}
use Rattle.leaf_bounds.specs.Expansion.{in_list, is_of}
use Rattle.leaf_bounds.specs.Listed.{pair_key, pair_listed, number_listed, is_at, IsSmall}
use Rattle.leaf_bounds.specs.Total.{only_if}
use Rattle.proof_rules.specs.declared.refused.ProofKind.TheVariants.{Sum}
use Rattle.proof_check.specs.declared.side.Side.{Side}
use Rattle.proof_check.specs.declared.side.Side.TheVariants.{First, Second}
use Rattle.proof_check.specs.declared.stop.Stop.{Stop}
use Rattle.proof_check.specs.declared.stop.Stop.TheVariants.{Memory, Refused}

-- sums, each at its place in the order of a leaf's lists
abbrev pub Sums : Type 0
Sums = BTreeMap ℕ PairValue

-- The train whose pattern an entry names, and the same of a pair.
abbrev pub train_in : Side → PairValue → ℕ
train_in First x = x.first
train_in Second x = x.second

abbrev pub train_at : Side → TrainPair → ℕ
train_at First p = p.first
train_at Second p = p.second

-- a table's two trains, and its numbers on a side
abbrev pub pair_of : Group → TrainPair
pair_of g = record { first = g.first; second = g.second }

abbrev pub numbers_on : Side → Group → List NumberValue
numbers_on First g = g.alpha
numbers_on Second g = g.beta

-- the sum at a pattern of the pair
abbrev pub sum_at : Sums → TrainPair → ℕ → ℤ
sum_at m p i = pair_listed (values m) p i

-- the number at a place
abbrev pub value_in : Option PairValue → ℤ
value_in None = pos 0
value_in (Some x) = x.value

abbrev pub value_at : Sums → ℕ → ℤ
value_at m key = value_in (get nat_cmp m key)

-- The entry stands at its place, and is in the ranges of a leaf's entries. It may be 0.
pub record IsKeyed (e : ℕ × PairValue) : Type 0 where
  pub place : pair_key e.1 ≡ e.0
  pub order : e.1.first < e.1.second
  pub second : e.1.second < 200
  pub number : e.1.number < 4096
  pub small : IsSmall e.1.value

pub record AreKeyed (m : Sums) : Type 0 where
  pub each : (k : ℕ) (e : ℕ × PairValue) → slice_get m.entries k ≡ Some e → IsKeyed e
  pub ordered : IsOrdered nat_cmp m

-- what is true of the lists of numbers that are allowed
pub record AreLists (lists : Lists) : Type 0 where
  pub few : length lists ≤ 200
  pub ascending : (t : ℕ) → t < length lists → IsStrictlyIncreasing (list_of lists t)
  pub numbers : (t n : ℕ) → t < length lists → in_list lists t n ≡ true → n < 4096

-- The pair is of the station's trains, and the pattern is in the train's list.
pub record IsListed (lists : Lists) (side : Side) (x : PairValue) : Type 0 where
  pub there : x.second < length lists
  pub listed : in_list lists (train_in side x) x.number ≡ true

abbrev pub AreListed : Lists → Side → Sums → Type 0
AreListed lists side m = (k : ℕ) (e : ℕ × PairValue) → slice_get m.entries k ≡ Some e → IsListed lists side e.1

-- the entries that aren't 0, ascending
abbrev pub is_some_entry : PairValue → Bool
is_some_entry x = not (int_eq x.value (pos 0))

abbrev pub some_entries : Sums → List PairValue
some_entries m = filter is_some_entry (values m)

-- the sums with an entry, times the factor
pub record AddsEntry (x : PairValue) (factor : ℤ) (old new : Sums) : Type 0 where
  pub sums : (p : TrainPair) (i : ℕ) → sum_at new p i ≡ sum_at old p i +ℤ only_if (is_at p i x) (factor *ℤ x.value)
  pub keyed : AreKeyed new
  pub listed : (lists : Lists) (side : Side) → AreListed lists side old → IsListed lists side x → AreListed lists side new

-- It would be more than 10^30 in size.
abbrev pub IsOver : Sums → TrainPair → ℕ → ℤ → Type 0
IsOver old p i more = IsSmall (sum_at old p i +ℤ more) → ⊥

abbrev pub IsEntryAdded : PairValue → ℤ → Sums → Sums → Result (Unit {0}) Stop → Type 0
IsEntryAdded x factor old new (Ok done) = AddsEntry x factor old new
IsEntryAdded x factor old new (Err Memory) = Unit {0}
IsEntryAdded x factor old new (Err (Refused kind)) =
    (kind ≡ Sum) × IsOver old (record { first = x.first; second = x.second }) x.number (factor *ℤ x.value)

-- a number of a table as an entry
abbrev pub entry_of : Group → NumberValue → PairValue
entry_of g x = record { first = g.first; second = g.second; number = x.number; value = x.value }

-- what a number of a table adds, where it is in the train's list
abbrev pub number_added : Lists → Side → Group → ℤ → NumberValue → TrainPair → ℕ → ℤ
number_added lists side g factor x p i =
    only_if (in_list lists (train_at side (pair_of g)) x.number) (only_if (is_at p i (entry_of g x)) (factor *ℤ x.value))

pub record AddsNumber (lists : Lists) (side : Side) (g : Group) (factor : ℤ) (x : NumberValue) (old new : Sums) : Type 0 where
  pub sums : (p : TrainPair) (i : ℕ) → sum_at new p i ≡ sum_at old p i +ℤ number_added lists side g factor x p i
  pub keyed : AreKeyed new
  pub listed : AreListed lists side new

abbrev pub IsNumberAdded : Lists → Side → Group → ℤ → NumberValue → Sums → Sums → Result (Unit {0}) Stop → Type 0
IsNumberAdded lists side g factor x old new (Ok done) = AddsNumber lists side g factor x old new
IsNumberAdded lists side g factor x old new (Err Memory) = Unit {0}
IsNumberAdded lists side g factor x old new (Err (Refused kind)) =
    (kind ≡ Sum) × (in_list lists (train_at side (pair_of g)) x.number ≡ true) × IsOver old (pair_of g) x.number (factor *ℤ x.value)

-- what a table says of a pattern of the pair, on this side
abbrev pub table_value : Side → Group → TrainPair → ℕ → ℤ
table_value side g p i = only_if (is_of p g) (number_listed (numbers_on side g) i)

-- the sums with the table's numbers, times the factor, at the patterns of the lists
pub record Adds (lists : Lists) (side : Side) (g : Group) (factor : ℤ) (old new : Sums) : Type 0 where
  pub sums : (p : TrainPair) (i : ℕ)
      → sum_at new p i ≡ sum_at old p i +ℤ only_if (in_list lists (train_at side p) i) (factor *ℤ table_value side g p i)
  pub keyed : AreKeyed new
  pub listed : AreListed lists side new

-- at one pattern of the lists the sum would be too large
pub record IsTooMuch (lists : Lists) (side : Side) (g : Group) (factor : ℤ) (old : Sums) : Type 0 where
  pub number : ℕ
  pub listed : in_list lists (train_at side (pair_of g)) number ≡ true
  pub over : IsOver old (pair_of g) number (factor *ℤ table_value side g (pair_of g) number)

abbrev pub IsAdded : Lists → Side → Group → ℤ → Sums → Sums → Result (Unit {0}) Stop → Type 0
IsAdded lists side g factor old new (Ok done) = Adds lists side g factor old new
IsAdded lists side g factor old new (Err Memory) = Unit {0}
IsAdded lists side g factor old new (Err (Refused kind)) = (kind ≡ Sum) × IsTooMuch lists side g factor old
