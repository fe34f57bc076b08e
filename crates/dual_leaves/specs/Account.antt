-- What rows with dual values say of trains, of platforms at minutes and of pairs of trains.
use Rattle.std.specs.Prelude.{◌≡◌, ℕ, ◌<◌, ◌==◌, ◌&&◌, true, List, length, slice_index, All, Contains, ℤ, pos, neg_ℤ, ◌+ℤ◌, ◌-ℤ◌, ◌*ℤ◌, ◌≤ℤ◌}
use Rattle.std.specs.Map.{keys_of, values_of}
use Rattle.exact_lp.specs.declared.row.Row.{Row}
use Rattle.exact_lp.specs.Columns.{value_at}
use Rattle.station.specs.declared.part.Pattern.{Pattern}
use Rattle.path_conflicts.specs.Minutes.{holds_platform}
use Rattle.patterns.specs.Allowed.{list_of}
use Rattle.patterns.specs.Book.{pattern_at}
use Rattle.pair_prices.specs.Case.{CaseRecord}
use Rattle.pair_prices.specs.Fraction.{pattern_of}
use Rattle.pair_prices.specs.Top.{sealed_price}
use Rattle.pattern_pricing.specs.declared.column.Column.TheVariants.{PlatformUse}
use Rattle.pattern_pricing.specs.Layout.{LayoutRecord, weight_column, pair_column}
use Rattle.pattern_pricing.specs.Positions.{position}
use Rattle.dual_leaves.specs.declared.account.Account.{Account}
use Rattle.dual_leaves.specs.declared.key.MinuteKey.{MinuteKey}
use Rattle.dual_leaves.specs.declared.key.PairKey.{PairKey}
use Rattle.dual_leaves.specs.declared.key.Side.{Side}
use Rattle.dual_leaves.specs.declared.key.Side.TheVariants.{First, Second}
use Rattle.dual_leaves.specs.Sums.{summed}

-- the numbers of an account
pub record Totals : Type 0 where
  -- what trains pay
  pub u : List (ℕ × ℤ)
  -- the values of the rows that hold platforms' uses to 1
  pub uses : List (ℕ × ℤ)
  -- what is paid for platforms at minutes
  pub v : List (MinuteKey × ℤ)
  -- what pairs are paid at patterns of their first trains, and of their second
  pub alpha : List (PairKey × ℤ)
  pub beta : List (PairKey × ℤ)

abbrev pub totals_of : Account → Totals
totals_of a = record { u = a.u.entries; uses = a.uses.entries; v = a.v.entries; alpha = a.alpha.entries; beta = a.beta.entries }

-- the pattern number at a place of a train's list
abbrev pub number_in : LayoutRecord → ℕ → ℕ → ℕ
number_in l train place = slice_index (list_of l.lists train) place

-- the number of a train, or of a platform
abbrev pub of_number : List (ℕ × ℤ) → ℕ → ℤ
of_number entries n = summed (λ k. k == n) entries

-- what is paid for a platform
abbrev pub on_platform : List (MinuteKey × ℤ) → ℕ → ℤ
on_platform v platform = summed (λ k. k.platform == platform) v

-- what is paid for the minutes that a pattern holds on its platform
abbrev pub held_by : CaseRecord → List (MinuteKey × ℤ) → Pattern → ℤ
held_by c v x = summed (λ k. k.platform == x.platform && holds_platform c.station x k.minute) v

abbrev pub train_on : Side → PairKey → ℕ
train_on First k = k.first
train_on Second k = k.second

-- what a train's pairs give it at a pattern, where the train is on that side
abbrev pub given_on : Side → List (PairKey × ℤ) → ℕ → ℕ → ℤ
given_on side entries train number = summed (λ k. train_on side k == train && k.number == number) entries

-- the number of two trains at a pattern
abbrev pub of_pair : List (PairKey × ℤ) → ℕ → ℕ → ℕ → ℤ
of_pair entries first second number = summed (λ k. k.first == first && k.second == second && k.number == number) entries

-- what a pattern is given by pairs and minutes
abbrev pub given_at : CaseRecord → Totals → ℕ → ℕ → ℤ
given_at c a train number =
    (given_on First a.alpha train number +ℤ given_on Second a.beta train number)
    +ℤ held_by c a.v (pattern_at c.book train number)

pub record IsMinuteKey (l : LayoutRecord) (k : MinuteKey) : Type 0 where
  pub there : k.platform < l.platforms
  pub first : neg_ℤ (pos 30) ≤ℤ k.minute
  pub last : k.minute ≤ℤ pos 2968

-- two trains in order, and a number in the list of the one on that side
pub record IsPairKey (l : LayoutRecord) (side : Side) (k : PairKey) : Type 0 where
  pub order : k.first < k.second
  pub there : k.second < length l.lists
  pub listed : Contains (list_of l.lists (train_on side k)) k.number

-- no number is below 0
abbrev pub NoneBelow : List ℤ → Type 0
NoneBelow values = All (λ z. pos 0 ≤ℤ z) values

-- All keys are there, and what is paid for platforms is at least 0.
pub record IsKept (l : LayoutRecord) (a : Totals) : Type 0 where
  pub u : All (λ t. t < length l.lists) (keys_of a.u)
  pub uses : All (λ p. p < l.platforms) (keys_of a.uses)
  pub uses_least : NoneBelow (values_of a.uses)
  pub v : All (IsMinuteKey l) (keys_of a.v)
  pub v_least : NoneBelow (values_of a.v)
  pub alpha : All (IsPairKey l First) (keys_of a.alpha)
  pub beta : All (IsPairKey l Second) (keys_of a.beta)

-- all of them
abbrev pub sum_of : List (ℕ × ℤ) → ℤ
sum_of entries = summed (λ k. true) entries

-- The account says no more than what is paid at columns by rows whose values times least numbers come to this: what a train pays less
-- what its pattern is given is at most what is paid at the pattern; what is paid for a platform's minutes less what holds down its use
-- is what is paid at the use; and the numbers of a pair are together at most what is paid at its value times the sealed price.
pub record IsAccount (c : CaseRecord) (l : LayoutRecord) (paid : ℕ → ℤ) (leasts : ℤ) (a : Totals) : Type 0 where
  pub weights : (train place : ℕ) → train < length l.lists → place < length (list_of l.lists train)
      → (of_number a.u train -ℤ given_at c a train (number_in l train place)) ≤ℤ paid (position l (weight_column train place))
  pub uses : (platform : ℕ) → platform < l.platforms
      → on_platform a.v platform -ℤ of_number a.uses platform ≡ paid (position l (PlatformUse platform))
  pub pairs : (first second i j : ℕ) → first < second → second < length l.lists
      → i < length (list_of l.lists first) → j < length (list_of l.lists second)
      → (of_pair a.alpha first second (number_in l first i) +ℤ of_pair a.beta first second (number_in l second j))
      ≤ℤ (paid (position l (pair_column (record { first = first; second = second })))
      *ℤ pos (sealed_price c (pattern_of c l.lists first i) (pattern_of c l.lists second j)))
  pub cost : sum_of a.u -ℤ sum_of a.uses ≡ leasts
  pub kept : IsKept l a

-- with one row more
abbrev pub paid_with : (ℕ → ℤ) → Row → ℤ → ℕ → ℤ
paid_with paid row value column = paid column +ℤ value *ℤ value_at row.cells column

-- the account with a row's value, whatever rows it had before
abbrev pub Reads : CaseRecord → LayoutRecord → Row → ℤ → Totals → Totals → Type 0
Reads c l row value old new =
    (paid : ℕ → ℤ) (leasts : ℤ) → IsAccount c l paid leasts old → IsAccount c l (paid_with paid row value) (leasts +ℤ value *ℤ row.least) new
