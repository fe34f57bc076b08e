-- A table after a pivot, as the code writes it.
use Rattle.std.proofs.Common.{◌≡◌, ℕ, ◌+◌, ◌<◌, arith, sym, ap, subst, ◌∙◌, List, [], ◌∷◌, ◌++◌, length, map, set, take, drop, get_or, zero, suc, refl, Result, Ok, Err, ℤ, pos, ◌<ℤ◌}
use Rattle.std.specs.Prelude.{OnOk}
use Rattle.std.proofs.lemmas.List.{get_or-set_same, get_or-set_other, length-set}
use Rattle.ratio.specs.Cells.{cell_at}
use Rattle.exact_lp.specs.Places.{place_of}
use Rattle.exact_lp.specs.Tables.{Clears, ClearsEach, IsCleared, IsTable, IsTurned, row_at}
use Rattle.exact_lp.proofs.Cleared.{turned_size}
use Rattle.exact_lp.proofs.Swapped.{swapped}

pub pivoted : (rows : List (List ℤ)) (cost : List ℤ) (variables : ℕ) (basis spares : List ℕ) → IsTable rows cost variables basis spares
    → (at v : ℕ) → at < length rows → v < variables → (row : List ℤ) → IsTurned (row_at rows at) row → pos 0 <ℤ cell_at row (place_of v)
    → (taken : List ℤ) (news : List (List ℤ)) (cost' : List ℤ) → length news ≡ length rows
    → ClearsEach row (place_of v) (set rows at taken) news → Clears row (place_of v) cost cost'
    → IsTable (set news at row) cost' variables (set basis at v) spares
pivoted rows cost variables basis spares table at v inside within row turned above taken news cost' long clear clear_cost =
    let wide : length row ≡ variables + 2 = turned_size (row_at rows at) row turned ∙ table.wide at inside in
    swapped rows cost variables basis spares table at v inside within row turned above (set news at row) cost'
    (length-set news at row ∙ long)
    (get_or-set_same news at row [] (omega arith))
    (λ k h ne.
    let Is : List ℤ → List ℤ → Type 0 = λ old new. IsCleared row (place_of v) old new in
    let old : row_at (set rows at taken) k ≡ row_at rows k = get_or-set_other rows at k taken [] ne in
    let so : IsCleared row (place_of v) (row_at (set rows at taken) k) (row_at news k) =
    clear k (omega (arith, length-set rows at taken)) (ap length old ∙ table.wide k h ∙ sym wide) above in
    subst (λ (r : List ℤ). Is (row_at rows k) r) (sym (get_or-set_other news at k row [] ne))
    (subst (λ (r : List ℤ). Is r (row_at news k)) old so))
    (clear_cost (table.cost_wide ∙ sym wide) above)

-- a list of which each element so far is written anew
pub mapped_more : {X : Type 0} (f : X → X) (xs : List X) (i : ℕ) (d y : X) → i < length xs → y ≡ f (get_or xs i d)
    → set (map f (take i xs) ++ drop i xs) i y ≡ map f (take (i + 1) xs) ++ drop (i + 1) xs
mapped_more f [] i d y h e = absurd (omega arith)
mapped_more f (x ∷ xs) zero d y h e = (λ i. e i ∷ xs)
mapped_more f (x ∷ xs) (suc n) d y h e =
    let step : suc n + 1 ≡ suc (n + 1) = omega arith in
    subst (λ (m : ℕ). set (map f (take (suc n) (x ∷ xs)) ++ drop (suc n) (x ∷ xs)) (suc n) y ≡ map f (take m (x ∷ xs)) ++ drop m (x ∷ xs)) (sym step)
    (λ i. f x ∷ mapped_more f xs n d y (omega arith) e i)

-- an element that isn't written yet
unread : {X : Type 0} (f : X → X) (xs : List X) (i : ℕ) (d : X) → i < length xs → get_or (map f (take i xs) ++ drop i xs) i d ≡ get_or xs i d
unread f [] i d h = absurd (omega arith)
unread f (x ∷ xs) zero d h = refl
unread f (x ∷ xs) (suc n) d h = unread f xs n d (omega arith)

pub mapped_step : {X : Type 0} (f : X → X) (xs now : List X) (i : ℕ) (d y : X) → i < length xs → now ≡ map f (take i xs) ++ drop i xs → y ≡ f (get_or now i d)
    → set now i y ≡ map f (take (i + 1) xs) ++ drop (i + 1) xs
mapped_step f xs now i d y h so e =
    ap (λ (l : List _). set l i y) so ∙ mapped_more f xs i d y h (e ∙ ap f (ap (λ (l : List _). get_or l i d) so ∙ unread f xs i d h))

-- what holds after an `Ok` by two facts
pub on_ok_both : {T E : Type 0} {P Q R : Type 0} (r : Result T E) → (P → Q → R) → OnOk r P → OnOk r Q → OnOk r R
on_ok_both (Ok x) f p q = f p q
on_ok_both (Err e) f p q = tt
