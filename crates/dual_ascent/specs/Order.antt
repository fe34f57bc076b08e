-- The order of a leaf's lists: each entry is before the next.
use Rattle.std.specs.Prelude.{ℕ, ◌+◌, ◌<◌, List, length, slice_index_or, ◌<ℤ◌}
use Rattle.leaf_bounds.specs.declared.number.TrainValue.{TrainValue}
use Rattle.leaf_bounds.specs.declared.number.MinuteValue.{MinuteValue}
use Rattle.leaf_bounds.specs.declared.number.PairValue.{PairValue}
use Rattle.leaf_bounds.specs.Listed.{minute_key, pair_key}

abbrev pub AscendsInTrains : List TrainValue → Type 0
AscendsInTrains xs = (k : ℕ) (d : TrainValue) → k + 1 < length xs → (slice_index_or xs k d).train < (slice_index_or xs (k + 1) d).train

abbrev pub AscendsInMinutes : List MinuteValue → Type 0
AscendsInMinutes xs =
    (k : ℕ) (d : MinuteValue) → k + 1 < length xs → minute_key (slice_index_or xs k d) <ℤ minute_key (slice_index_or xs (k + 1) d)

abbrev pub AscendsInPairs : List PairValue → Type 0
AscendsInPairs xs =
    (k : ℕ) (d : PairValue) → k + 1 < length xs → pair_key (slice_index_or xs k d) < pair_key (slice_index_or xs (k + 1) d)
