-- What a layout keeps beside its lists.
use Rattle.std.specs.Prelude.{◌≡◌, ℕ, ◌+◌, ◌<◌, ◌≤◌, List, length, slice_index, sum_by}
use Rattle.station.specs.Allowed.{numbers}
use Rattle.pattern_pricing.specs.Layout.{LayoutRecord}
use Rattle.pattern_pricing.specs.Positions.{list_size, later_trains}

-- the sums of the sizes before each of so many parts, and of all
pub record AreStarts (size : ℕ → ℕ) (count : ℕ) (starts : List ℕ) : Type 0 where
  pub long : length starts ≡ count + 1
  pub each : (part : ℕ) → part ≤ count → slice_index starts part ≡ sum_by size (numbers part)
  pub most : (part : ℕ) → part ≤ count → slice_index starts part ≤ 819_200

pub record IsKept (l : LayoutRecord) (pattern_starts pair_starts : List ℕ) : Type 0 where
  pub trains : length l.lists ≤ 200
  pub platforms_most : l.platforms ≤ 64
  pub sizes : (train : ℕ) → train < length l.lists → list_size l train ≤ 4096
  pub patterns : AreStarts (list_size l) (length l.lists) pattern_starts
  pub pairs : AreStarts (later_trains l) (length l.lists) pair_starts
