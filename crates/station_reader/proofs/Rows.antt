-- The pairs that pass a test, row by row.
use Rattle.std.proofs.Common.{◌≡◌, ℕ, suc, ◌+◌, ◌-◌, ◌<◌, ◌≤◌, List, [], ◌∷◌, ◌++◌, map, Bool, true, false, cond, refl, ap, arith, length}
use Rattle.std.specs.Prelude.{filter, flat_map}
use Rattle.std.specs.List.{range_with_len}
use Rattle.std.proofs.lemmas.List.Elements.{filter-append}
use Rattle.serde_json.specs.View.{view}
use Rattle.serde_json.specs.declared.value.Value.{Value}
use Rattle.station_reader.specs.Classes.{names}
use Rattle.station.specs.declared.part.PathPair.{PathPair}
use Rattle.station_reader.specs.Reading.{pairs_with}

-- the pairs of first with n numbers from second on that pass
abbrev pub row_from : (PathPair → Bool) → ℕ → ℕ → ℕ → List PathPair
row_from test first second n = filter test (map (λ j. record { first = first; second = j }) (range_with_len second n))

-- the pairs of the n first numbers from first on that pass
abbrev pub rows_from : (PathPair → Bool) → ℕ → ℕ → ℕ → List PathPair
rows_from test count first n = filter test (flat_map (pairs_with count) (range_with_len first n))

first_of : (b : Bool) (x : PathPair) (xs : List PathPair) → cond b (x ∷ xs) xs ≡ cond b (x ∷ []) [] ++ xs
first_of true x xs = refl
first_of false x xs = refl

pub row_from-step : (test : PathPair → Bool) (first second count : ℕ) → second < count
    → row_from test first second (count - second) ≡ cond (test (record { first = first; second = second })) (record { first = first; second = second } ∷ []) [] ++ row_from test first (second + 1) (count - (second + 1))
row_from-step test first second count h = let e : count - second ≡ suc (count - (second + 1)) = omega arith in rw e (first_of (test (record { first = first; second = second })) _ _)

pub row_from-end : (test : PathPair → Bool) (first second count : ℕ) → count ≤ second → row_from test first second (count - second) ≡ []
row_from-end test first second count h = let e : count - second ≡ 0 = omega arith in rw e

pub rows_from-step : (test : PathPair → Bool) (count first : ℕ) → first < count
    → rows_from test count first (count - first) ≡ filter test (pairs_with count first) ++ rows_from test count (first + 1) (count - (first + 1))
rows_from-step test count first h = let e : count - first ≡ suc (count - (first + 1)) = omega arith in rw e (filter-append test (pairs_with count first) _)

pub rows_from-end : (test : PathPair → Bool) (count first : ℕ) → count ≤ first → rows_from test count first (count - first) ≡ []
rows_from-end test count first h = let e : count - first ≡ 0 = omega arith in rw e

pub length-named : (vs : List Value) → length vs ≡ length (names (map view vs))
length-named [] = refl
length-named (v ∷ vs) = ap suc (length-named vs)
