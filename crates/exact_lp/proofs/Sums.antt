-- The sums of a certificate, element by element.
use Rattle.std.proofs.Common.{◌≡◌, ℕ, ◌+◌, ◌<◌, arith, refl, List, length, get_or, drop, ◌∷◌, drop-cons, add-one, ℤ, ◌+ℤ◌, ◌*ℤ◌}
use Rattle.std.proofs.lemmas.Int.{ints}
use Rattle.exact_lp.specs.declared.row.Row.{Row}
use Rattle.exact_lp.specs.declared.row.RowCell.{RowCell}
use Rattle.exact_lp.specs.Columns.{value_at}
use Rattle.exact_lp.specs.Programs.{paid_by_rows, valued_leasts}
use Rattle.exact_lp.specs.Sources.{opening_sum}

-- what is left at i is its element and what is left after it
drop-more : {X : Type 0} (xs : List X) (i : ℕ) (d : X) → i < length xs → drop i xs ≡ get_or xs i d ∷ drop (i + 1) xs
drop-more xs i d h = rw add-one (drop-cons xs i d h)

pub valued-drop : (rows : List Row) (values : List ℤ) (i : ℕ) (d : Row) (e : ℤ) → i < length rows → i < length values → valued_leasts (drop i rows) (drop i values) ≡ get_or values i e *ℤ (get_or rows i d).least +ℤ valued_leasts (drop (i + 1) rows) (drop (i + 1) values)
valued-drop rows values i d e h k = rw (drop-more rows i d h, drop-more values i e k) refl

pub paid-drop : (rows : List Row) (values : List ℤ) (column i : ℕ) (d : Row) (e : ℤ) → i < length rows → i < length values → paid_by_rows (drop i rows) (drop i values) column ≡ get_or values i e *ℤ value_at (get_or rows i d).cells column +ℤ paid_by_rows (drop (i + 1) rows) (drop (i + 1) values) column
paid-drop rows values column i d e h k = rw (drop-more rows i d h, drop-more values i e k) refl

pub opening-drop : (cells : List RowCell) (rows : List Row) (columns : List ℕ) (i : ℕ) (d : Row) (e : ℕ) → i < length rows → i < length columns → opening_sum cells (drop i rows) (drop i columns) ≡ value_at cells (get_or columns i e) *ℤ (get_or rows i d).least +ℤ opening_sum cells (drop (i + 1) rows) (drop (i + 1) columns)
opening-drop cells rows columns i d e h k = rw (drop-more rows i d h, drop-more columns i e k) refl

-- a sum so far, and one more part
pub step : (s t p q w v all : ℤ) → s ≡ t +ℤ p → t +ℤ w ≡ all → p ≡ q → w ≡ q +ℤ v → s +ℤ v ≡ all
step s t p q w v all so e same h = omega (arith, ints)
