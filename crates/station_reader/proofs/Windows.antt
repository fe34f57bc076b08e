-- The minutes of a window, one after another.
use Rattle.std.proofs.Common.{◌≡◌, ℕ, suc, ◌+◌, ◌-◌, ◌<◌, List, ◌∷◌, map, ℤ, pos, ◌+ℤ◌, ◌-ℤ◌, arith, Bool, true, false, cond, ◌≤◌, ◌≤ℤ◌, ◌<ℤ◌, int_le, rules}
use Rattle.std.specs.List.{range_with_len}
use Rattle.station.specs.Allowed.{window}

-- the minutes from place i on
abbrev pub rest : ℤ → ℕ → ℕ → ℕ → List ℤ
rest minute early late i = map (λ k. (minute -ℤ pos early) +ℤ pos k) (range_with_len i (early + late + 1 - i))

pub rest-start : (minute : ℤ) (early late : ℕ) → rest minute early late 0 ≡ window minute early late
rest-start minute early late = let e : early + late + 1 - 0 ≡ early + late + 1 = omega arith in rw e

pub rest-step : (minute : ℤ) (early late i : ℕ) → i < early + late + 1 → rest minute early late i ≡ ((minute -ℤ pos early) +ℤ pos i) ∷ rest minute early late (i + 1)
rest-step minute early late i h = let e : early + late + 1 - i ≡ suc (early + late + 1 - (i + 1)) = omega arith in rw e

-- a sum that grows by the first of what is left
pub one_more : (count found d left left' all : ℕ) → found ≡ d → left ≡ d + left' → count + left ≡ all → count + found + left' ≡ all
one_more count found d left left' all e f g = omega arith

pub at_most_one : (b : Bool) (n : ℕ) → n ≡ cond b 1 0 → n ≤ 1
at_most_one true n e = omega arith
at_most_one false n e = omega arith

pub kept_dwell : (a d : ℤ) → a ≤ℤ d → ◌≡◌ {A = ℕ} 1 (cond (int_le a d) 1 0)
kept_dwell a d h = search rules

pub broken_dwell : (a d : ℤ) → d <ℤ a → ◌≡◌ {A = ℕ} 0 (cond (int_le a d) 1 0)
broken_dwell a d h = search rules
