-- The pairs of incompatible paths come back from the listed ones.
use Rattle.std.proofs.Common.{◌≡◌, ℕ, ◌+◌, ◌*◌, ◌-◌, ◌<◌, ◌≤◌, List, Bool, true, false, ◌&&◌, ◌||◌, ◌==◌, Some, slice_get, refl, subst, arith, inl, inr, ◌⊎◌}
use Rattle.std.specs.Prelude.{filter}
use Rattle.std.specs.List.{list_any, range_with_len}
use Rattle.std.proofs.lemmas.Bool.{eq-eqb}
use borrow.Author.Tests.{eqb-true}
use Rattle.station.specs.declared.part.PathPair.{PathPair}
use Rattle.station.specs.Station.{IsBefore}
use Rattle.station_reader.specs.Reading.{same_pair, pairs_with, pairs_below}
use Rattle.station.proofs.Among.{Among, among-at, place-of, into-map, into-flat_map, into-filter, from-filter, into-range}
use Rattle.station_reader.proofs.Chosen.{IsPairFrom, rows_within, rows_rising}
use Rattle.station.proofs.Tests.{left, right}
use Rattle.station.proofs.Lists.{any-found, rising-filter}
use Rattle.station_gen.proofs.Listed.{any-at, both_hold, or_first}
use Rattle.station_gen.proofs.SameRising.{every-of, rising-by, same-rising}

abbrev pair_key : PathPair → ℕ
pair_key x = 1000 * x.first + x.second

same-as : (a b : Bool) → (a || b) ≡ true → (a ≡ true) ⊎ (b ≡ true)
same-as true b e = inl refl
same-as false b e = inr e

equal-pairs : (x y : PathPair) → x.first < x.second → y.first < y.second → same_pair x y ≡ true → y ≡ x
equal-pairs x y h g e =
    elim (same-as (y.first == x.first && y.second == x.second) (y.first == x.second && y.second == x.first) e) [
      | inl k ↦ let first : y.first ≡ x.first = eqb-true y.first x.first (left (y.first == x.first) (y.second == x.second) k) in
          let second : y.second ≡ x.second = eqb-true y.second x.second (right (y.first == x.first) (y.second == x.second) k) in
          λ i. record { first = first i; second = second i }
      | inr k ↦ let first : y.first ≡ x.second = eqb-true y.first x.second (left (y.first == x.second) (y.second == x.first) k) in
          let second : y.second ≡ x.first = eqb-true y.second x.first (right (y.first == x.second) (y.second == x.first) k) in
          absurd (omega arith)
    ]

same-itself : (x : PathPair) → same_pair x x ≡ true
same-itself x = or_first (x.first == x.first && x.second == x.second) _ (both_hold (x.first == x.first) (x.second == x.second) (eq-eqb x.first x.first refl) (eq-eqb x.second x.second refl))

among-below : (n : ℕ) (x : PathPair) → x.first < x.second → x.second < n → Among (pairs_below n) x
among-below n x h g =
    into-flat_map (pairs_with n) (range_with_len 0 n) x.first x (into-range 0 n x.first (omega arith) (omega arith))
    (into-map (λ (j : ℕ). let y : PathPair = record { first = x.first; second = j } in y) (range_with_len (x.first + 1) (n - (x.first + 1))) x.second x (into-range (x.first + 1) (n - (x.first + 1)) x.second (omega arith) (omega arith)) refl)

pub pairs-back : (n : ℕ) (xs : List PathPair) → n ≤ 500 → ((i : ℕ) (x : PathPair) → slice_get xs i ≡ Some x → (x.first < x.second) × (x.second < n))
    → ((i j : ℕ) (x y : PathPair) → i < j → slice_get xs i ≡ Some x → slice_get xs j ≡ Some y → IsBefore x y) → filter (λ x. list_any (same_pair x) xs) (pairs_below n) ≡ xs
pairs-back n xs few there ascending =
    let test : PathPair → Bool = λ x. list_any (same_pair x) xs in
    same-rising pair_key (filter test (pairs_below n)) xs (rising-filter IsBefore test (pairs_below n) (rows_rising n 0 n (omega arith) few)) (rising-by IsBefore xs ascending)
    (λ x h.
    let kept = from-filter test (pairs_below n) x h in
    let ordered = every-of (IsPairFrom 0 n) (pairs_below n) (rows_within n 0 n (omega arith)) x kept.0 in
    let found = any-found (same_pair x) xs kept.1 in
    subst (Among xs) (equal-pairs x found.1 ordered.1 (there found.0 found.1 found.2).0 found.3) (among-at xs found.0 found.1 found.2))
    (λ x h.
    let at = place-of xs x h in
    let facts = there at.0 x at.1 in
    into-filter test (pairs_below n) x (among-below n x facts.0 facts.1) (any-at (same_pair x) xs at.0 x at.1 (same-itself x)))
