-- One more turn of the loops that make lists.
use Rattle.std.proofs.Common.{◌≡◌, ℕ, suc, ◌+◌, ◌*◌, List, [], ◌∷◌, ◌++◌, map, refl, sym, ap, ◌∙◌, append_assoc, arith}
use Rattle.std.specs.List.{flat_map}
use Rattle.std.proofs.lemmas.List.Concat.{flat_map-append}
use Rattle.std.proofs.lemmas.List.FromFn.{map-range_with_len_more}
use Rattle.station.specs.Allowed.{numbers}
use Rattle.station_gen.specs.Made.{next, state_after}

pub map_more : {X : Type 0} (f : ℕ → X) (k : ℕ) → map f (numbers (k + 1)) ≡ map f (numbers k) ++ f k ∷ []
map_more f k = map-range_with_len_more f 0 k k (omega arith)

pub map_step : {X : Type 0} (f : ℕ → X) (k : ℕ) (old new : List X) (x : X) → old ≡ map f (numbers k) → new ≡ old ++ x ∷ [] → x ≡ f k → new ≡ map f (numbers (k + 1))
map_step f k old new x before grown is = grown ∙ ap (λ xs. xs ++ x ∷ []) before ∙ ap (λ y. map f (numbers k) ++ y ∷ []) is ∙ sym (map_more f k)

map_same : (xs : List ℕ) → map (λ k. k) xs ≡ xs
map_same [] = refl
map_same (x ∷ xs) = ap (λ r. x ∷ r) (map_same xs)

numbers_more : (k : ℕ) → numbers (k + 1) ≡ numbers k ++ k ∷ []
numbers_more k = sym (map_same (numbers (k + 1))) ∙ map_more (λ n. n) k ∙ ap (λ r. r ++ k ∷ []) (map_same (numbers k))

append_nil : {A : Type 0} (xs : List A) → xs ++ [] ≡ xs
append_nil [] = refl
append_nil (x ∷ xs) = ap (λ r. x ∷ r) (append_nil xs)

pub flat_map_more : {A : Type 0} (f : ℕ → List A) (k : ℕ) → flat_map f (numbers (k + 1)) ≡ flat_map f (numbers k) ++ f k
flat_map_more f k =
    ap (flat_map f) (numbers_more k) ∙ flat_map-append f (numbers k) (k ∷ []) ∙ ap (λ r. flat_map f (numbers k) ++ r) (append_nil (f k))

pub flat_map_step : {A : Type 0} (f : ℕ → List A) (k : ℕ) (before old new : List A) → old ≡ before ++ flat_map f (numbers k) → new ≡ old ++ f k → new ≡ before ++ flat_map f (numbers (k + 1))
flat_map_step f k before old new so_far grown =
    grown ∙ ap (λ xs. xs ++ f k) so_far ∙ append_assoc before (flat_map f (numbers k)) (f k) ∙ ap (λ xs. before ++ xs) (sym (flat_map_more f k))

-- the five draws of train k
pub five_draws : (number k : ℕ) → next (next (next (next (next (state_after number (5 * k)))))) ≡ state_after number (5 * (k + 1))
unfolding state_after
five_draws number k = let e : 5 * (k + 1) ≡ suc (suc (suc (suc (suc (5 * k))))) = omega arith in rw e
