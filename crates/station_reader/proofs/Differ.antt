-- Names of which none stands again differ.
use Rattle.std.proofs.Common.{◌≡◌, ℕ, zero, suc, ◌<◌, List, [], ◌∷◌, take, Bool, true, false, not, Option, Some, None, option_map, slice_get, refl, sym, ap, ◌∙◌, arith, true≢false, bytes_eq, inl, inr, ◌⊎◌}
use Rattle.std.proofs.lemmas.Slice.Eq.{bytes_eq-Decides}
use Rattle.station_reader.specs.First.{unless, occurs}
use Rattle.station_reader.specs.Classes.{repeat, again}
use Rattle.station_reader.specs.Passes.{AllNew}
use Rattle.station.specs.Station.{AllDiffer}
use Rattle.station_reader.specs.declared.place.Spot.{Spot}
use Rattle.station_reader.proofs.Clear.{holds, each-none}
use Rattle.station.proofs.Tests.{or_right}

pub occurs-take : (n : List ℕ) (ns : List (List ℕ)) (i j : ℕ) → i < j → slice_get ns i ≡ Some n → occurs n (take j ns) ≡ true
unfolding occurs
occurs-take n [] i j h is = absurd (cc)
occurs-take n (m ∷ ns) i zero h is = absurd (omega arith)
occurs-take n (m ∷ ns) zero (suc j) h is =
    let same : n ≡ m = cc in
    let e : bytes_eq n m ≡ true = (bytes_eq-Decides n m).1 same in
    rw e
occurs-take n (m ∷ ns) (suc i) (suc j) h is = or_right (bytes_eq n m) _ (occurs-take n ns i j (omega arith) is)

not_true : (b : Bool) → not b ≡ true → b ≡ false
not_true true e = absurd (true≢false (sym e))
not_true false e = refl

no_spot : (spot : ℕ → Spot) (o : Option ℕ) → option_map spot o ≡ None → o ≡ None
no_spot spot None e = refl
no_spot spot (Some i) e = absurd (cc)

pub new-from_again : (spot : ℕ → Spot) (ns : List (List ℕ)) → again spot ns ≡ None → AllNew ns
unfolding repeat
new-from_again spot ns e i n is =
    not_true _ (holds _ _ (each-none (λ (j : ℕ) (m : List ℕ). unless (not (occurs m (take j ns))) j) ns (no_spot spot (repeat ns) e) i n is))

order : (i j : ℕ) → (i < j) ⊎ ((i ≡ j) ⊎ (j < i))
order zero zero = inr (inl refl)
order zero (suc j) = inl (omega arith)
order (suc i) zero = inr (inr (omega arith))
order (suc i) (suc j) = elim (order i j) [ inl h ↦ inl (omega arith) | inr (inl h) ↦ inr (inl (ap suc h)) | inr (inr h) ↦ inr (inr (omega arith)) ]

clash : (n : List ℕ) (ns : List (List ℕ)) (i j : ℕ) → AllNew ns → i < j → slice_get ns i ≡ Some n → slice_get ns j ≡ Some n → ⊥
clash n ns i j new h is js = true≢false (sym (occurs-take n ns i j h is) ∙ new j n js)

pub differ : (ns : List (List ℕ)) → AllNew ns → AllDiffer ns
differ ns new i j n is js =
    elim (order i j) [ inl h ↦ absurd (clash n ns i j new h is js) | inr (inl h) ↦ h | inr (inr h) ↦ absurd (clash n ns j i new h js is) ]

pub new-is : (b : Bool) (s : Spot) → unless (not b) s ≡ None → b ≡ false
new-is b s e = not_true b (holds (not b) s e)

pub occurs-at : (n : List ℕ) (ns : List (List ℕ)) (i : ℕ) → slice_get ns i ≡ Some n → occurs n ns ≡ true
unfolding occurs
occurs-at n [] i is = absurd (cc)
occurs-at n (m ∷ ns) zero is =
    let same : n ≡ m = cc in
    let e : bytes_eq n m ≡ true = (bytes_eq-Decides n m).1 same in
    rw e
occurs-at n (m ∷ ns) (suc i) is = or_right (bytes_eq n m) _ (occurs-at n ns i is)
