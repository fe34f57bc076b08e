-- Two tests that agree on a list, and the pairs that are marked.
use Rattle.std.proofs.Common.{◌≡◌, ℕ, ◌≤◌, List, [], ◌∷◌, Bool, cond, refl, arith}
use Rattle.std.specs.Prelude.{filter}
use Rattle.std.specs.List.{list_any}
use Rattle.station.specs.declared.part.PathPair.{PathPair}
use Rattle.station_reader.specs.Reading.{same_pair, pairs_below}
use Rattle.station_reader.specs.Marked.{is_marked, MarksListed}
use Rattle.station.proofs.Lists.{Every}
use Rattle.station_reader.proofs.Chosen.{IsPairFrom, rows_within}

one_alike : {X : Type 0} (a b : Bool) (x : X) (xs ys : List X) → a ≡ b → xs ≡ ys → cond a (x ∷ xs) xs ≡ cond b (x ∷ ys) ys
one_alike a b x xs ys e same = λ i. cond (e i) (x ∷ same i) (same i)

pub filter-alike : {X : Type 0} (P : X → Type 0) (f g : X → Bool) (xs : List X) → Every P xs → ((x : X) → P x → f x ≡ g x) → filter f xs ≡ filter g xs
filter-alike P f g [] all alike = refl
filter-alike P f g (x ∷ xs) all alike = one_alike (f x) (g x) x (filter f xs) (filter g xs) (alike x all.0) (filter-alike P f g xs all.1 alike)

pub marked_pairs : (marks : List Bool) (listed : List PathPair) (n : ℕ) → n ≤ 500 → MarksListed marks listed
    → filter (is_marked marks) (pairs_below n) ≡ filter (λ x. list_any (same_pair x) listed) (pairs_below n)
marked_pairs marks listed n few right =
    filter-alike (IsPairFrom 0 n) (is_marked marks) (λ x. list_any (same_pair x) listed) (pairs_below n) (rows_within n 0 n (omega arith))
    (λ x b. right x (record { first = omega (arith, b.1, b.2); second = omega (arith, b.2) }))
