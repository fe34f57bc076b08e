-- The columns of the bound of a node, as one list. A column's number is its place there, from 0.
use Rattle.std.specs.Prelude.{ℕ, ◌<◌, List, ◌++◌, length, map, flat_map}
use Rattle.station.specs.Allowed.{numbers}
use Rattle.patterns.specs.Allowed.{Lists, list_of}
use Rattle.pair_prices.specs.Fraction.{places}
use Rattle.pair_prices.specs.Trains.{TrainPair, train_pairs}
use Rattle.pattern_pricing.specs.declared.column.Column.{Column}
use Rattle.pattern_pricing.specs.declared.column.Column.TheVariants.{Weight, LeftOut, PlatformUse, PairValue}

-- the allowed numbers of each train, and how many platforms there are
pub record LayoutRecord : Type 0 where
  pub lists : Lists
  pub platforms : ℕ

abbrev pub weight_column : ℕ → ℕ → Column
weight_column train place = Weight (record { train = train; place = place })

abbrev pub pair_column : TrainPair → Column
pair_column p = PairValue (record { first = p.first; second = p.second })

-- the patterns of a train, by their places in its list
abbrev pub weight_columns_of : Lists → ℕ → List Column
weight_columns_of lists train = map (weight_column train) (places lists train)

-- the patterns of all trains
unfoldable pub weight_columns : Lists → List Column
weight_columns lists = flat_map (weight_columns_of lists) (numbers (length lists))

-- Patterns by train and place in the train's list, then left out by train, then platforms, then pairs of trains by first
-- and second.
unfoldable pub columns_of : LayoutRecord → List Column
columns_of l =
    weight_columns l.lists ++ map LeftOut (numbers (length l.lists)) ++ map PlatformUse (numbers l.platforms)
    ++ map pair_column (train_pairs (length l.lists))

-- the train, the place, the platform or the pair is there
abbrev pub IsColumn : LayoutRecord → Column → Type 0
IsColumn l (Weight w) = (w.train < length l.lists) × (w.place < length (list_of l.lists w.train))
IsColumn l (LeftOut train) = train < length l.lists
IsColumn l (PlatformUse platform) = platform < l.platforms
IsColumn l (PairValue p) = (p.first < p.second) × (p.second < length l.lists)
