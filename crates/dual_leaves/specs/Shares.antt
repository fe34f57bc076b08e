-- What a row of a cut on two trains gives them at their patterns.
use Rattle.std.specs.Prelude.{◌≡◌, ℕ, Bool, List, length, All, ℤ, neg_ℤ, ◌+ℤ◌, ◌*ℤ◌}
use Rattle.std.specs.Map.{keys_of}
use Rattle.exact_lp.specs.declared.row.Row.{Row}
use Rattle.station.specs.Allowed.{numbers}
use Rattle.patterns.specs.Allowed.{list_of}
use Rattle.pattern_pricing.specs.declared.column.PairAt.{PairAt}
use Rattle.pattern_pricing.specs.Layout.{LayoutRecord, weight_column}
use Rattle.leaf_bounds.specs.Total.{only_if, total}
use Rattle.dual_leaves.specs.declared.key.PairKey.{PairKey}
use Rattle.dual_leaves.specs.declared.key.Side.{Side}
use Rattle.dual_leaves.specs.declared.key.Side.TheVariants.{First, Second}
use Rattle.dual_leaves.specs.Account.{number_in, IsPairKey}
use Rattle.dual_leaves.specs.Kinds.{cell_of}
use Rattle.dual_leaves.specs.Sums.{summed}

abbrev pub train_of : PairAt → Side → ℕ
train_of at First = at.first
train_of at Second = at.second

-- the key of the pattern at a place of the train on that side
abbrev pub key_at : LayoutRecord → PairAt → Side → ℕ → PairKey
key_at l at side place = record { first = at.first; second = at.second; number = number_in l (train_of at side) place }

-- the value times the row's cell at the pattern, with the other sign
abbrev pub share_at : LayoutRecord → Row → PairAt → Side → ℤ → ℕ → ℤ
share_at l row at side value place = neg_ℤ (value *ℤ cell_of l row (weight_column (train_of at side) place))

-- One key's number is less by the value times the cell.
pub record IsShareAdded (old : List (PairKey × ℤ)) (key : PairKey) (value cell : ℤ) (new : List (PairKey × ℤ)) : Type 0 where
  pub sums : (test : PairKey → Bool) → summed test new ≡ summed test old +ℤ only_if (test key) (neg_ℤ (value *ℤ cell))
  pub keys : (l : LayoutRecord) (side : Side) → IsPairKey l side key → All (IsPairKey l side) (keys_of old) → All (IsPairKey l side) (keys_of new)

-- The numbers of the patterns at the first so many places are more by their shares.
pub record AreSharesAdded (l : LayoutRecord) (row : Row) (at : PairAt) (side : Side) (value : ℤ) (count : ℕ) (old new : List (PairKey × ℤ)) : Type 0 where
  pub sums : (test : PairKey → Bool) → summed test new
      ≡ summed test old +ℤ total (λ place. only_if (test (key_at l at side place)) (share_at l row at side value place)) (numbers count)
  pub keys : All (IsPairKey l side) (keys_of old) → All (IsPairKey l side) (keys_of new)

-- those of all its patterns
abbrev pub IsSideRead : LayoutRecord → Row → PairAt → Side → ℤ → List (PairKey × ℤ) → List (PairKey × ℤ) → Type 0
IsSideRead l row at side value old new = AreSharesAdded l row at side value (length (list_of l.lists (train_of at side))) old new
