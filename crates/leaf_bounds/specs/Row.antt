-- The part of a check of a leaf that looks at one pattern of the first train of a pair.
use Rattle.std.specs.Prelude.{◌≡◌, ℕ, ◌<◌, List, length, map}
use Rattle.patterns.specs.Allowed.{Lists, list_of}
use Rattle.patterns.specs.Book.{offers_of}
use Rattle.pair_prices.specs.Case.{CaseRecord}
use Rattle.pair_prices.specs.Trains.{TrainPair}
use Rattle.leaf_bounds.specs.declared.leaf.Leaf.{Leaf}
use Rattle.leaf_bounds.specs.declared.check.PairPlace.{PairPlace}
use Rattle.leaf_bounds.specs.declared.pairs.Places.{Places}
use Rattle.leaf_bounds.specs.declared.pairs.Row.{Row}
use Rattle.leaf_bounds.specs.Listed.{pair_listed, IsSmall}
use Rattle.leaf_bounds.specs.Places.{AreBelow, IsPlace}

-- one number of the first train beside all numbers of the second
abbrev pub row_places : Lists → TrainPair → ℕ → List PairPlace
row_places lists p i = map (λ j. record { first = p.first; second = p.second; i = i; j = j }) (list_of lists p.second)

-- in both lists all entries before the places are below the key
pub record AreBelowBoth (l : Leaf) (key : ℕ) (at : Places) : Type 0 where
  pub alpha : AreBelow l.alpha key at.alpha
  pub beta : AreBelow l.beta key at.beta

pub record ArePlacesOf (l : Leaf) (key : ℕ) (at : Places) : Type 0 where
  pub alpha : IsPlace l.alpha key at.alpha
  pub beta : IsPlace l.beta key at.beta

-- The pair and the first train's number are there, and the number is the leaf's.
pub record IsRow (c : CaseRecord) (l : Leaf) (row : Row) : Type 0 where
  pub order : row.first < row.second
  pub there : row.second < length c.book
  pub number : row.number < length (offers_of c.book row.first)
  pub alpha : row.alpha ≡ pair_listed l.alpha (record { first = row.first; second = row.second }) row.number
  pub small : IsSmall row.alpha
