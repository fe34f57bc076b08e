-- A row chosen for a variable: one whose cell there is positive, or none where no row has such a cell.
use Rattle.std.proofs.Common.{arith, ◌≡◌, ℕ, ◌+◌, ◌<◌, List, [], length, get_or, take, subst, sym, Option, Some, None, ℤ, pos, ◌<ℤ◌, ◌≤ℤ◌, ⊎_elim}
use Rattle.std.specs.Prelude.{All, IfNone, MatchOption, ◌⊎◌, ◌≤◌}
use Rattle.std.specs.Option.{is_some}
use Rattle.std.proofs.lemmas.List.{get_or_read, take_all}
use Rattle.std.proofs.lemmas.List.Elements.{All-more}
use Rattle.ratio.specs.Cells.{cell_at}
use Rattle.exact_lp.specs.declared.choice.Candidate.{Candidate}

-- the best of the first n rows, by the cells at a place
abbrev pub IsBestOf : List (List ℤ) → ℕ → ℕ → Option Candidate → Type 0
IsBestOf rows place n best = MatchOption best (All (λ (row : List ℤ). cell_at row place ≤ℤ pos 0) (take n rows)) (λ b. pos 0 <ℤ cell_at (get_or rows b.at []) place)

pub taken_in : (rows : List (List ℤ)) (place n : ℕ) (row : List ℤ) (best : Option Candidate) (next result : Candidate)
    → n < length rows → row ≡ get_or rows n row → next.at ≡ n → pos 0 <ℤ cell_at row place → IsBestOf rows place n best
    → (result ≡ next) ⊎ (best ≡ Some result) → IsBestOf rows place (n + 1) (Some result)
taken_in rows place n row best next result inside is at above before choice =
    ⊎_elim
    (λ (e : result ≡ next).
    let P : ℕ → Type 0 = λ k. pos 0 <ℤ cell_at (get_or rows k []) place in
    let Q : List ℤ → Type 0 = λ r. pos 0 <ℤ cell_at r place in
    let R : Candidate → Type 0 = λ b. pos 0 <ℤ cell_at (get_or rows b.at []) place in
    subst R (sym e) (subst P (sym at) (subst Q (get_or_read rows n row inside is []) above)))
    (λ (e : best ≡ Some result). let M : Option Candidate → Type 0 = λ b. IsBestOf rows place n b in subst M e before)
    choice

pub passed_over : (rows : List (List ℤ)) (place n : ℕ) (row : List ℤ) (best : Option Candidate)
    → n < length rows → row ≡ get_or rows n row → cell_at row place ≤ℤ pos 0 → IsBestOf rows place n best → IsBestOf rows place (n + 1) best
passed_over rows place n row None inside is below before =
    let P : List ℤ → Type 0 = λ r. cell_at r place ≤ℤ pos 0 in
    All-more P rows n row inside before (subst P is below)
passed_over rows place n row (Some b) inside is below before = before

pub none_left : (rows : List (List ℤ)) (place n : ℕ) (best : Option Candidate) (chosen : Option ℕ) → length rows ≤ n → IsBestOf rows place n best → is_some chosen ≡ is_some best
    → IfNone chosen (All (λ (row : List ℤ). cell_at row place ≤ℤ pos 0) rows)
none_left rows place n best (Some at) all before same = tt
none_left rows place n (Some b) None all before same = cc
none_left rows place n None None all before same =
    let P : List ℤ → Type 0 = λ r. cell_at r place ≤ℤ pos 0 in
    subst (All P) (take_all n rows (omega arith)) before
