-- A loop that appends the cells of one more part.
use Rattle.std.proofs.Common.{◌≡◌, ℕ, ◌+◌, List, [], ◌∷◌, ◌++◌, map, sym, ap, ◌∙◌, append_assoc}
use Rattle.std.specs.List.{flat_map}
use Rattle.station.specs.Allowed.{numbers}
use Rattle.std.proofs.lemmas.List.{map-append}
use Rattle.patterns.proofs.Steps.{flat_map_numbers_more, numbers_more}

pub pushed_more : {X : Type 0} (part : ℕ → List X) (k : ℕ) (old items new cells : List X) → items ≡ old ++ flat_map part (numbers k) → new ≡ items ++ cells
    → cells ≡ part k → new ≡ old ++ flat_map part (numbers (k + 1))
pushed_more part k old items new cells before more is =
    more ∙ ap (λ xs. xs ++ cells) before ∙ append_assoc old (flat_map part (numbers k)) cells
    ∙ ap (λ xs. old ++ (flat_map part (numbers k) ++ xs)) is ∙ ap (λ xs. old ++ xs) (sym (flat_map_numbers_more part k))

pub five_pushed : {X : Type 0} (start one two three four five a b d e f : List X) → start ≡ [] → one ≡ start ++ a → two ≡ one ++ b → three ≡ two ++ d → four ≡ three ++ e
    → five ≡ four ++ f → five ≡ a ++ b ++ d ++ e ++ f
five_pushed start one two three four five a b d e f is p q r s t =
    t ∙ ap (λ xs. xs ++ f) (s ∙ ap (λ xs. xs ++ e) (r ∙ ap (λ xs. xs ++ d) (q ∙ ap (λ xs. xs ++ b) (p ∙ ap (λ xs. xs ++ a) is))))

pub mapped_more : {X : Type 0} (f : ℕ → X) (k : ℕ) (items new : List X) (x : X) → items ≡ map f (numbers k) → new ≡ items ++ x ∷ [] → x ≡ f k
    → new ≡ map f (numbers (k + 1))
mapped_more f k items new x before more is =
    more ∙ ap (λ xs. xs ++ x ∷ []) before ∙ ap (λ y. map f (numbers k) ++ y ∷ []) is
    ∙ sym (ap (map f) (numbers_more k) ∙ map-append f (numbers k) (k ∷ []))
