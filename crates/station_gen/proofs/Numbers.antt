-- Numbers come back from the names that they stand for.
use Rattle.std.proofs.Common.{◌≡◌, ℕ, zero, suc, ◌+◌, ◌<◌, List, [], ◌∷◌, map, length, Bool, true, false, cond, Some, slice_get, slice_index_or, refl, sym, ap, ◌∙◌, subst, arith, inl, inr, bytes_eq, true≢false}
use Rattle.std.proofs.lemmas.Slice.Eq.{bytes_eq-Decides}
use Rattle.station_reader.specs.First.{occurs}
use Rattle.station.specs.Station.{AllDiffer}
use Rattle.station_reader.specs.Reading.{number_of, numbers_from}
use Rattle.station.proofs.Among.{Among, among-at, place-of}
use Rattle.station_reader.proofs.Chosen.{numbers_rising}
use Rattle.station_reader.proofs.Differ.{occurs-at}
use Rattle.station.proofs.Lists.{any-found, mapped, map-at}
use Rattle.station_reader.proofs.Numbered.{number_of-named}
use Rattle.station_gen.proofs.Listed.{name-at}
use Rattle.station_gen.proofs.SameRising.{rising-by, same-rising}

pub number-back : (names : List (List ℕ)) → AllDiffer names → (i : ℕ) → i < length names → number_of names (slice_index_or names i []) ≡ i
number-back names apart i h =
    let n = slice_index_or names i [] in
    let there : slice_get names i ≡ Some n = name-at names i h in
    apart (number_of names n) i n (number_of-named names n (occurs-at n names i there)) there

-- ---- platforms of a train

more_numbers : (b : Bool) (n x : ℕ) (rest : List ℕ) → Among rest x → Among (cond b (n ∷ rest) rest) x
more_numbers true n x rest h = inr h
more_numbers false n x rest h = h

this_number : (b : Bool) (n : ℕ) (rest : List ℕ) → b ≡ true → Among (cond b (n ∷ rest) rest) n
this_number true n rest e = inl refl
this_number false n rest e = absurd (true≢false (sym e))

into-numbers : (n : ℕ) (names used : List (List ℕ)) (i m : ℕ) (name : List ℕ) → slice_get names i ≡ Some name → occurs name used ≡ true → m ≡ n + i → Among (numbers_from n names used) m
into-numbers n [] used i m name is e at = absurd (cc)
into-numbers n (x ∷ names) used zero m name is e at =
    let here : x ≡ name = cc in
    let first : n ≡ m = omega arith in
    subst (Among (numbers_from n (x ∷ names) used)) first (this_number (occurs x used) n (numbers_from (n + 1) names used) (ap (λ y. occurs y used) here ∙ e))
into-numbers n (x ∷ names) used (suc i) m name is e at =
    more_numbers (occurs x used) n m (numbers_from (n + 1) names used) (into-numbers (n + 1) names used i m name is e (omega arith))

abbrev IsUsed : ℕ → List (List ℕ) → List (List ℕ) → ℕ → Type 0
IsUsed n names used m = (i : ℕ) × (name : List ℕ) × (slice_get names i ≡ Some name) × (occurs name used ≡ true) × (m ≡ n + i)

from_chosen : (b : Bool) (n : ℕ) (x : List ℕ) (names used : List (List ℕ)) (m : ℕ) → occurs x used ≡ b → Among (cond b (n ∷ numbers_from (n + 1) names used) (numbers_from (n + 1) names used)) m
    → (Among (numbers_from (n + 1) names used) m → IsUsed (n + 1) names used m) → IsUsed n (x ∷ names) used m
from_chosen true n x names used m e (inl h) later = (0, x, refl, e, omega arith)
from_chosen true n x names used m e (inr h) later = let rest = later h in (suc rest.0, rest.1, rest.2, rest.3, omega (arith, rest.4))
from_chosen false n x names used m e h later = let rest = later h in (suc rest.0, rest.1, rest.2, rest.3, omega (arith, rest.4))

from-numbers : (n : ℕ) (names used : List (List ℕ)) (m : ℕ) → Among (numbers_from n names used) m → IsUsed n names used m
from-numbers n [] used m h = absurd h
from-numbers n (x ∷ names) used m h = from_chosen (occurs x used) n x names used m refl h (from-numbers (n + 1) names used m)

module _ (names : List (List ℕ)) (apart : AllDiffer names) where
  abbrev name_of : ℕ → List ℕ
  name_of p = slice_index_or names p []

  used-by : (ps : List ℕ) → ((i p : ℕ) → slice_get ps i ≡ Some p → p < length names) → (m : ℕ) → IsUsed 0 names (map name_of ps) m → Among ps m
  unfolding occurs
  used-by ps there m found =
      let entry = any-found (bytes_eq found.1) (map name_of ps) found.3 in
      let same : found.1 ≡ entry.1 = (bytes_eq-Decides found.1 entry.1).0 entry.3 in
      let p = mapped name_of ps entry.0 entry.1 entry.2 in
      let named : slice_get names p.0 ≡ Some found.1 = name-at names p.0 (there entry.0 p.0 p.1) ∙ ap Some (p.2 ∙ sym same) in
      let one : p.0 ≡ found.0 = apart p.0 found.0 found.1 named found.2 in
      let number : p.0 ≡ m = omega (arith, one, found.4) in
      subst (Among ps) number (among-at ps entry.0 p.0 p.1)

  numbered : (ps : List ℕ) → ((i p : ℕ) → slice_get ps i ≡ Some p → p < length names) → (m : ℕ) → Among ps m → Among (numbers_from 0 names (map name_of ps)) m
  numbered ps there m h =
      let at = place-of ps m h in
      into-numbers 0 names (map name_of ps) m m (name_of m) (name-at names m (there at.0 m at.1)) (occurs-at (name_of m) (map name_of ps) at.0 (map-at name_of ps at.0 m at.1)) (omega arith)

  -- the numbers of a list come back
  pub numbers-back : (ps : List ℕ) → ((i p : ℕ) → slice_get ps i ≡ Some p → p < length names)
      → ((i j p q : ℕ) → i < j → slice_get ps i ≡ Some p → slice_get ps j ≡ Some q → p < q) → numbers_from 0 names (map name_of ps) ≡ ps
  numbers-back ps there ascending =
      same-rising (λ p. p) (numbers_from 0 names (map name_of ps)) ps (numbers_rising 0 names (map name_of ps)) (rising-by (λ p q. p < q) ps ascending)
      (λ m h. used-by ps there m (from-numbers 0 names (map name_of ps) m h)) (numbered ps there)
