-- Numbers divided by a common divisor.
use Rattle.std.specs.Prelude.{ℕ, ◌≤◌, ◌^◌, List, [], ◌∷◌, All, ℤ, pos, if◌then◌else◌, int_div, unsigned_abs}
use Rattle.std.specs.Int.{◌∣◌}
use Rattle.std.specs.List.{flat_map}
use Rattle.std.specs.Ordering.{int_eq}
use Rattle.leaf_bounds.specs.declared.number.TrainValue.{TrainValue}
use Rattle.leaf_bounds.specs.declared.number.MinuteValue.{MinuteValue}
use Rattle.leaf_bounds.specs.declared.number.PairValue.{PairValue}
use Rattle.dual_leaves.specs.declared.key.MinuteKey.{MinuteKey}
use Rattle.dual_leaves.specs.declared.key.PairKey.{PairKey}

abbrev pub Divides : ℤ → ℤ → Type 0
Divides divisor z = unsigned_abs divisor ∣ unsigned_abs z

abbrev pub DivideAll : ℤ → List ℤ → Type 0
DivideAll divisor values = All (Divides divisor) values

-- The quotients are at most 10^30 in size.
abbrev pub AreSmall : ℤ → List ℤ → Type 0
AreSmall divisor values = All (λ z. unsigned_abs (int_div z divisor) ≤ 10 ^ 30) values

-- a number that is listed unless it is 0
abbrev pub listed : {K X : Type 0} → (K → ℤ → X) → K → ℤ → List X
listed make key z = if int_eq z (pos 0) then [] else (make key z ∷ [])

-- the quotients of all keys, without 0
abbrev pub quotients : {K X : Type 0} → (K → ℤ → X) → ℤ → List (K × ℤ) → List X
quotients make divisor entries = flat_map (λ e. listed make e.0 (int_div e.1 divisor)) entries

abbrev pub train_value : ℕ → ℤ → TrainValue
train_value train z = record { train = train; value = z }

abbrev pub minute_value : MinuteKey → ℤ → MinuteValue
minute_value k z = record { platform = k.platform; minute = k.minute; value = z }

abbrev pub pair_value : PairKey → ℤ → PairValue
pair_value k z = record { first = k.first; second = k.second; number = k.number; value = z }
