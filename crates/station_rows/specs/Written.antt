-- Weights of columns written side by side.
use Rattle.std.specs.Prelude.{◌≡◌, ℕ, ◌+◌, ◌<◌, List, length, map, ℤ}
use Rattle.std.specs.List.{between}
use Rattle.station.specs.Allowed.{numbers}
use Rattle.exact_lp.specs.declared.point.ColumnWeight.{ColumnWeight}
use Rattle.transport.specs.Coupling.{at}
use Rattle.pattern_pricing.specs.Layout.{LayoutRecord}
use Rattle.pattern_pricing.specs.Positions.{list_size, start_of}
use Rattle.station_rows.specs.Points.{weight_at}

-- the weights of the first so many columns
pub record AreWeights (weights : List ColumnWeight) (count : ℕ) (all : List ℤ) : Type 0 where
  pub long : length all ≡ count
  pub each : (column : ℕ) → column < count → at all column ≡ weight_at weights column

-- those of a train's patterns
abbrev pub train_part : LayoutRecord → List ℤ → ℕ → List ℤ
train_part l all train = between (start_of l train) (start_of l train + list_size l train) all

-- those of the first trains' patterns
abbrev pub train_parts : LayoutRecord → List ℤ → ℕ → List (List ℤ)
train_parts l all trains = map (train_part l all) (numbers trains)
