-- A row's value at a column, by its cells.
use Rattle.std.proofs.Common.{◌≡◌, ◌≢◌, ℕ, zero, suc, ◌<◌, ◌==◌, Bool, true, false, cond, List, [], ◌∷◌, length, get_or, refl, sym, ap, ◌∙◌, arith, ℤ, pos}
use Rattle.std.proofs.lemmas.Bool.Decides.{nat_tests}
use borrow.Author.Tests.{eqb-true}
use Rattle.exact_lp.specs.declared.row.RowCell.{RowCell}
use Rattle.exact_lp.specs.Columns.{AreAscendingCells, value_at}
use Rattle.exact_lp.proofs.Cells.{rises, tail_rises}

taken : (a n : ℕ) (v r : ℤ) → a ≡ n → cond (a == n) v r ≡ v
taken a n v r e = grind (arith, nat_tests)

passed : (a n : ℕ) (v r : ℤ) → a ≢ n → cond (a == n) v r ≡ r
passed a n v r e = grind (arith, nat_tests)

-- the value at a cell's column is the cell's
pub value_here : (cells : List RowCell) (i : ℕ) (d : RowCell) → AreAscendingCells cells → i < length cells
    → value_at cells (get_or cells i d).column ≡ (get_or cells i d).value
value_here [] i d up h = absurd (omega arith)
value_here (cell ∷ cells) zero d up h = taken cell.column cell.column cell.value (value_at cells cell.column) refl
value_here (cell ∷ cells) (suc i) d up h =
    let before = rises (cell ∷ cells) up 0 (suc i) d (omega arith) h in
    passed cell.column (get_or cells i d).column cell.value (value_at cells (get_or cells i d).column) (λ e. absurd (omega (arith, before, e)))
    ∙ value_here cells i d (tail_rises cell cells up) (omega arith)

-- a cell that has the row's value at a column
pub record IsCellAt (cells : List RowCell) (n : ℕ) : Type 0 where
  pub place : ℕ
  pub inside : place < length cells
  pub column : (d : RowCell) → (get_or cells place d).column ≡ n
  pub value : (d : RowCell) → (get_or cells place d).value ≡ value_at cells n

-- where the value isn't 0, some cell has it
pub value_listed : (cells : List RowCell) (n : ℕ) → value_at cells n ≢ pos 0 → IsCellAt cells n
value_listed [] n h = absurd (h refl)
value_listed (cell ∷ cells) n h = by (cell.column == n) refl h (value_listed cells n)
  where
    by : (b : Bool) → (cell.column == n) ≡ b → cond b cell.value (value_at cells n) ≢ pos 0 → (value_at cells n ≢ pos 0 → IsCellAt cells n) → IsCellAt (cell ∷ cells) n
    by true e h rest =
        let here = eqb-true cell.column n e in
        record { place = 0; inside = omega arith; column = λ d. here; value = λ d. sym (taken cell.column n cell.value (value_at cells n) here) }
    by false e h rest =
        let r = rest h in
        let inside = r.inside in
        record {
          place = suc r.place;
          inside = omega (arith, inside);
          column = λ d. r.column d;
          value = λ d. r.value d ∙ ap (λ b. cond b cell.value (value_at cells n)) (sym e);
        }
