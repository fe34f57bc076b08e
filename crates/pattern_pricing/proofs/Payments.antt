-- What rows pay, cell by cell.
use Rattle.std.proofs.Common.{◌≡◌, ◌≢◌, ℕ, suc, ◌+◌, ◌<◌, ◌≤◌, ◌^◌, ◌==◌, if◌then◌else◌, Bool, true, false, cond, List, [], ◌∷◌, length, drop, set, get_or, refl, sym, ap, ◌∙◌, subst, arith, ℤ, pos, ◌+ℤ◌, ◌-ℤ◌, ◌*ℤ◌, unsigned_abs, FitsSigned, Result, Ok, Err, OnErr}
use Rattle.std.proofs.lemmas.Int.{ints, fits_signed_from_abs}
use Rattle.std.specs.Int.{w128}
use Rattle.std.proofs.lemmas.Bool.Decides.{nat_tests}
use Rattle.std.proofs.lemmas.List.{drop_more, get_or-set_same, get_or-set_other}
use borrow.Author.Tests.{eqb-true, eqb-false}
use Rattle.exact_lp.specs.declared.row.Row.{Row}
use Rattle.exact_lp.specs.declared.row.RowCell.{RowCell}
use Rattle.exact_lp.specs.Columns.{AreAscendingCells, value_at}
use Rattle.exact_lp.specs.Programs.{paid_by_rows}
use Rattle.exact_lp.proofs.Cells.{rises, tail_rises}
use Rattle.exact_lp.proofs.Sums.{paid-drop}
use Rattle.pattern_pricing.specs.Reduced.{at, cell_sizes, paid_by_cell, paid_by_cells, paid_sizes}

times_zero : (v : ℤ) → v *ℤ pos 0 ≡ pos 0
times_zero v = omega (arith, ints)

-- where no cell is at the column, nothing is paid
none_paid : (v : ℤ) (cells : List RowCell) (n : ℕ) → ((k : ℕ) (d : RowCell) → k < length cells → (get_or cells k d).column ≢ n) → paid_by_cells v cells n ≡ pos 0
none_paid v [] n h = refl
none_paid v (cell ∷ cells) n h =
    passed cell.column n (v *ℤ cell.value) (paid_by_cells v cells n) (h 0 cell (omega arith)) (none_paid v cells n (λ k d l. h (suc k) d (omega arith)))
  where
    passed : (a n : ℕ) (p r : ℤ) → a ≢ n → r ≡ pos 0 → (if a == n then p else pos 0) +ℤ r ≡ pos 0
    passed a n p r ne e = grind (arith, ints, nat_tests)

-- ascending cells pay the row's value at the column
pub paid_once : (v : ℤ) (cells : List RowCell) (n : ℕ) → AreAscendingCells cells → paid_by_cells v cells n ≡ v *ℤ value_at cells n
paid_once v [] n up = sym (times_zero v)
paid_once v (cell ∷ cells) n up = by (paid_once v cells n (tail_rises cell cells up)) (cell.column == n) refl
  where
    by : paid_by_cells v cells n ≡ v *ℤ value_at cells n → (b : Bool) → (cell.column == n) ≡ b
        → cond b (v *ℤ cell.value) (pos 0) +ℤ paid_by_cells v cells n ≡ v *ℤ cond b cell.value (value_at cells n)
    by rest true e =
        let here = eqb-true cell.column n e in
        let none = none_paid v cells n (λ k d l. let r = rises (cell ∷ cells) up 0 (suc k) d (omega arith) (omega arith) in λ q. absurd (omega (arith, here, r, q))) in
        let p = v *ℤ cell.value in
        let add : p +ℤ paid_by_cells v cells n ≡ p = ap (λ z. p +ℤ z) none ∙ plus_zero p in add
      where
        plus_zero : (p : ℤ) → p +ℤ pos 0 ≡ p
        plus_zero p = omega (arith, ints)
    by rest false e = zero_plus (paid_by_cells v cells n) ∙ rest
      where
        zero_plus : (p : ℤ) → pos 0 +ℤ p ≡ p
        zero_plus p = omega (arith, ints)

size_less : (a b : ℤ) → unsigned_abs (a -ℤ b) ≤ unsigned_abs a + unsigned_abs b
size_less a b = omega (arith, ints)

size_if : (b : Bool) (z : ℤ) → unsigned_abs (cond b z (pos 0)) ≤ unsigned_abs z
size_if true z = omega arith
size_if false z = omega arith

apart : (a n : ℕ) (p : ℤ) → a ≢ n → (if a == n then p else pos 0) ≡ pos 0
apart a n p ne = grind (arith, ints, nat_tests)

together : (a n : ℕ) (p : ℤ) → a ≡ n → (if a == n then p else pos 0) ≡ p
together a n p e = grind (arith, ints, nat_tests)

less_none : (x p : ℤ) → p ≡ pos 0 → x ≡ x -ℤ p
less_none x p e = omega (arith, ints)

-- a cell behind the last column pays nothing
pub cell_past : (v : ℤ) (cell : RowCell) (xs : List ℤ) (n : ℕ) → n < length xs → length xs ≤ cell.column → at xs n ≡ at xs n -ℤ paid_by_cell v cell n
cell_past v cell xs n h k = less_none (at xs n) (paid_by_cell v cell n) (apart cell.column n (v *ℤ cell.value) (λ e. absurd (omega (arith, h, k, e))))

-- a cell pays at its own column
pub cell_set : (v : ℤ) (cell : RowCell) (xs : List ℤ) (z : ℤ) → cell.column < length xs → z ≡ at xs cell.column -ℤ v *ℤ cell.value
    → (n : ℕ) → n < length xs → at (set xs cell.column z) n ≡ at xs n -ℤ paid_by_cell v cell n
cell_set v cell xs z inside is n h = by (cell.column == n) refl
  where
    by : (b : Bool) → (cell.column == n) ≡ b → at (set xs cell.column z) n ≡ at xs n -ℤ cond b (v *ℤ cell.value) (pos 0)
    by true e =
        let here = eqb-true cell.column n e in
        let P : ℕ → Type 0 = λ m. at (set xs cell.column z) m ≡ at xs m -ℤ v *ℤ cell.value in
        subst P here (get_or-set_same xs cell.column z (pos 0) inside ∙ is)
    by false e = get_or-set_other xs cell.column n z (pos 0) (λ q. eqb-false cell.column n e (sym q)) ∙ less_none (at xs n) (pos 0) refl

pub product_fits : (v w : ℤ) (n : ℕ) → n + unsigned_abs (v *ℤ w) < 2 ^ 127 → FitsSigned w128 (v *ℤ w)
product_fits v w n h = fits_signed_from_abs w128 (v *ℤ w) (omega (arith, h))

pub difference_fits : (a b : ℤ) → unsigned_abs a + unsigned_abs b < 2 ^ 127 → FitsSigned w128 (a -ℤ b)
difference_fits a b h = let s = size_less a b in fits_signed_from_abs w128 (a -ℤ b) (omega (arith, h, s))

less_more : (a b p q r whole : ℤ) → b ≡ a -ℤ p → a -ℤ q ≡ whole → q ≡ p +ℤ r → b -ℤ r ≡ whole
less_more a b p q r whole e f g = omega (arith, ints)

-- one more cell
pub cells_step : (v : ℤ) (cells : List RowCell) (i : ℕ) (d : RowCell) (n : ℕ) (old new whole : ℤ) → i < length cells → new ≡ old -ℤ paid_by_cell v (get_or cells i d) n
    → old -ℤ paid_by_cells v (drop i cells) n ≡ whole → new -ℤ paid_by_cells v (drop (i + 1) cells) n ≡ whole
cells_step v cells i d n old new whole h e f =
    less_more old new (paid_by_cell v (get_or cells i d) n) (paid_by_cells v (drop i cells) n) (paid_by_cells v (drop (i + 1) cells) n) whole e f
    (ap (λ cs. paid_by_cells v cs n) (drop_more cells i d h))

pub cells_room : (v : ℤ) (cells : List RowCell) (i : ℕ) (d : RowCell) (n : ℕ) (old new : ℤ) (whole : ℕ) → i < length cells → new ≡ old -ℤ paid_by_cell v (get_or cells i d) n
    → unsigned_abs old + cell_sizes v (drop i cells) ≤ whole → unsigned_abs new + cell_sizes v (drop (i + 1) cells) ≤ whole
cells_room v cells i d n old new whole h e f =
    let x = get_or cells i d in
    let a = size_less old (paid_by_cell v x n) in
    let b = size_if (x.column == n) (v *ℤ x.value) in
    let same = ap unsigned_abs e in
    let more = ap (λ cs. cell_sizes v cs) (drop_more cells i d h) in
    omega (arith, a, b, same, more, f)

value_size : (v : ℤ) (cells : List RowCell) (n : ℕ) → unsigned_abs (v *ℤ value_at cells n) ≤ cell_sizes v cells
value_size v [] n = let e = ap unsigned_abs (times_zero v) in omega (arith, e)
value_size v (cell ∷ cells) n = by (cell.column == n) (value_size v cells n)
  where
    by : (b : Bool) → unsigned_abs (v *ℤ value_at cells n) ≤ cell_sizes v cells → unsigned_abs (v *ℤ cond b cell.value (value_at cells n)) ≤ unsigned_abs (v *ℤ cell.value) + cell_sizes v cells
    by true rest = omega arith
    by false rest = omega (arith, rest)

-- one more row
pub rows_step : (rows : List Row) (values : List ℤ) (i : ℕ) (d : Row) (e : ℤ) (n : ℕ) (old new whole : ℤ) → i < length rows → i < length values
    → new ≡ old -ℤ get_or values i e *ℤ value_at (get_or rows i d).cells n
    → old -ℤ paid_by_rows (drop i rows) (drop i values) n ≡ whole → new -ℤ paid_by_rows (drop (i + 1) rows) (drop (i + 1) values) n ≡ whole
rows_step rows values i d e n old new whole h k is f =
    less_more old new (get_or values i e *ℤ value_at (get_or rows i d).cells n) (paid_by_rows (drop i rows) (drop i values) n)
    (paid_by_rows (drop (i + 1) rows) (drop (i + 1) values) n) whole is f (paid-drop rows values n i d e h k)

sizes-drop : (rows : List Row) (values : List ℤ) (i : ℕ) (d : Row) (e : ℤ) → i < length rows → i < length values
    → paid_sizes (drop i rows) (drop i values) ≡ cell_sizes (get_or values i e) (get_or rows i d).cells + paid_sizes (drop (i + 1) rows) (drop (i + 1) values)
sizes-drop rows values i d e h k = rw (drop_more rows i d h, drop_more values i e k) refl

pub rows_room : (rows : List Row) (values : List ℤ) (i : ℕ) (d : Row) (e : ℤ) (n : ℕ) (old new : ℤ) (whole : ℕ) → i < length rows → i < length values
    → new ≡ old -ℤ get_or values i e *ℤ value_at (get_or rows i d).cells n
    → unsigned_abs old + paid_sizes (drop i rows) (drop i values) ≤ whole → unsigned_abs new + paid_sizes (drop (i + 1) rows) (drop (i + 1) values) ≤ whole
rows_room rows values i d e n old new whole h k is f =
    let v = get_or values i e in
    let cells = (get_or rows i d).cells in
    let a = size_less old (v *ℤ value_at cells n) in
    let b = value_size v cells n in
    let same = ap unsigned_abs is in
    let more = sizes-drop rows values i d e h k in
    omega (arith, a, b, same, more, f)

-- what is left of the room for all rows is room for the next one
pub row_room : (rows : List Row) (values : List ℤ) (i : ℕ) (d : Row) (e : ℤ) (x whole : ℕ) → i < length rows → i < length values → whole < 2 ^ 127
    → x + paid_sizes (drop i rows) (drop i values) ≤ whole → x + cell_sizes (get_or values i e) (get_or rows i d).cells < 2 ^ 127
row_room rows values i d e x whole h k small f = let more = sizes-drop rows values i d e h k in omega (arith, more, f, small)

pub cell_room : (v : ℤ) (cells : List RowCell) (i : ℕ) (d : RowCell) (x whole : ℕ) → i < length cells → whole < 2 ^ 127
    → x + cell_sizes v (drop i cells) ≤ whole → x + unsigned_abs (v *ℤ (get_or cells i d).value) < 2 ^ 127
cell_room v cells i d x whole h small f = let more = ap (λ cs. cell_sizes v cs) (drop_more cells i d h) in omega (arith, more, f, small)

-- when all have paid
pub all_paid : (old new p q : ℤ) → q ≡ pos 0 → new -ℤ q ≡ old -ℤ p → new ≡ old -ℤ p
all_paid old new p q e f = omega (arith, ints)

pub on_err : {T E : Type 0} (r : Result T E) (P : Type 0) → P → OnErr r P
on_err (Ok x) P h = tt
on_err (Err e) P h = h
