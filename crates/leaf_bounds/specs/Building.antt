-- Lists of leaves as they are made: a number for each train, in order.
use Rattle.std.specs.Prelude.{ℕ, ◌==◌, if◌then◌else◌, List, [], ◌∷◌, flat_map, pos}
use Rattle.station.specs.Allowed.{numbers}
use Rattle.leaf_bounds.specs.declared.number.TrainValue.{TrainValue}
use Rattle.leaf_bounds.specs.Listed.{Ascends, IsTrainValue}
use Rattle.std.specs.Prelude.{◌≡◌, Some, slice_get}

-- the entries are in their ranges, and ascend
pub record AreTrainValues (xs : List TrainValue) : Type 0 where
  pub each : (i : ℕ) (x : TrainValue) → slice_get xs i ≡ Some x → IsTrainValue x
  pub ascends : Ascends (λ x. pos x.train) xs

-- a number of a train, which is listed unless it is 0
abbrev pub listed_value : ℕ → ℕ → List TrainValue
listed_value t n = if n == 0 then [] else (record { train = t; value = pos n } ∷ [])

-- the numbers of n trains
unfoldable pub value_list : (ℕ → ℕ) → ℕ → List TrainValue
value_list f n = flat_map (λ t. listed_value t (f t)) (numbers n)
