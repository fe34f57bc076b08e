-- Where columns stand, by sums.
use Rattle.std.specs.Prelude.{ℕ, ◌+◌, ◌-◌, length, sum_by}
use Rattle.station.specs.Allowed.{numbers}
use Rattle.patterns.specs.Allowed.{list_of}
use Rattle.pattern_pricing.specs.declared.column.Column.{Column}
use Rattle.pattern_pricing.specs.declared.column.Column.TheVariants.{Weight, LeftOut, PlatformUse, PairValue}
use Rattle.pattern_pricing.specs.Layout.{LayoutRecord}

-- how many patterns a train has
abbrev pub list_size : LayoutRecord → ℕ → ℕ
list_size l train = length (list_of l.lists train)

-- how many trains there are behind one
abbrev pub later_trains : LayoutRecord → ℕ → ℕ
later_trains l train = length l.lists - (train + 1)

-- how many patterns the trains before have
unfoldable pub start_of : LayoutRecord → ℕ → ℕ
start_of l train = sum_by (list_size l) (numbers train)

-- how many pairs have a first train before
unfoldable pub pair_start : LayoutRecord → ℕ → ℕ
pair_start l train = sum_by (later_trains l) (numbers train)

-- the number of patterns
abbrev pub patterns_in : LayoutRecord → ℕ
patterns_in l = start_of l (length l.lists)

-- the number of pairs
abbrev pub pairs_in : LayoutRecord → ℕ
pairs_in l = pair_start l (length l.lists)

abbrev pub position : LayoutRecord → Column → ℕ
position l (Weight w) = start_of l w.train + w.place
position l (LeftOut train) = patterns_in l + train
position l (PlatformUse platform) = patterns_in l + length l.lists + platform
position l (PairValue p) = patterns_in l + length l.lists + l.platforms + (pair_start l p.first + (p.second - (p.first + 1)))
