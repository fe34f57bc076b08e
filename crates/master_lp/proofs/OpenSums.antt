-- What a row has at a point, whatever columns the point lists.
use Rattle.std.proofs.Common.{◌≡◌, ℕ, zero, suc, ◌+◌, ◌<◌, ◌≤◌, if◌then◌else◌, Bool, true, false, eqb, List, [], ◌∷◌, length, refl, ap, ◌∙◌, arith, ℤ, pos, ◌*ℤ◌}
use Rattle.std.specs.List.{All}
use Rattle.std.proofs.lemmas.Int.{ints}
use Rattle.std.proofs.lemmas.Bool.{eqb-true}
use Rattle.std.proofs.lemmas.List.Elements.{All-cons, All-head, All-nil, All-tail, All-weaker}
use Rattle.station.specs.Allowed.{numbers}
use Rattle.exact_lp.specs.declared.point.ColumnWeight.{ColumnWeight}
use Rattle.exact_lp.specs.declared.point.Point.{Point}
use Rattle.exact_lp.specs.declared.row.Row.{Row}
use Rattle.exact_lp.specs.declared.row.RowCell.{RowCell}
use Rattle.exact_lp.specs.Columns.{value_at}
use Rattle.exact_lp.specs.Programs.{IsWithin, row_sum}
use Rattle.leaf_bounds.specs.Total.{total}
use Rattle.leaf_bounds.proofs.Totals.{total_numbers_more}
use Rattle.pattern_pricing.specs.declared.column.Column.{Column}
use Rattle.pattern_pricing.specs.Layout.{LayoutRecord, columns_of}
use Rattle.pattern_pricing.proofs.Places.{position_of}
use Rattle.station_rows.specs.Points.{weight_at}
use Rattle.station_rows.specs.Rows.{IsRow}
use Rattle.station_rows.proofs.Weighed.{weighed_all, total_places}
use Rattle.station_rows.proofs.Spread.{point_weight, spread, zero-mul_ℤ}

-- above all listed columns
abbrev bound_of : List ColumnWeight → ℕ
bound_of [] = 0
bound_of (w ∷ ws) = (w.column + 1) + bound_of ws

within_bound : (n : ℕ) (ws : List ColumnWeight) → IsWithin (n + bound_of ws) ws
within_bound n [] = All-nil (λ (v : ColumnWeight). v.column < n + 0)
within_bound n (w ∷ ws) =
    let most : ℕ = n + ((w.column + 1) + bound_of ws) in
    let more : (v : ColumnWeight) → v.column < n + bound_of ws → v.column < most = λ v h. omega (arith, h) in
    All-cons (λ (v : ColumnWeight). v.column < most) w ws (omega arith)
    (All-weaker (λ (v : ColumnWeight). v.column < n + bound_of ws) (λ (v : ColumnWeight). v.column < most) more ws (within_bound n ws))

-- a sum over numbers, where there is nothing from some number on
total_front : (f : ℕ → ℤ) (n k : ℕ) → ((m : ℕ) → n ≤ m → f m ≡ pos 0) → total f (numbers (n + k)) ≡ total f (numbers n)
total_front f n zero h = let e : n + 0 ≡ n = omega arith in ap (λ (m : ℕ). total f (numbers m)) e
total_front f n (suc k) h =
    let e : n + suc k ≡ suc (n + k) = omega arith in
    let rest = total_front f n k h in
    let more = total_numbers_more f (n + k) in
    let none = h (n + k) (omega arith) in
    let step : total f (numbers (suc (n + k))) ≡ total f (numbers n) = omega (arith, ints, rest, more, none) in
    ap (λ (m : ℕ). total f (numbers m)) e ∙ step

-- a row that names no column from the count on has nothing there
unnamed : (count n : ℕ) (cells : List RowCell) → count ≤ n → All (λ cell. cell.column < count) cells → value_at cells n ≡ pos 0
unnamed count n [] h below = refl
unnamed count n (cell ∷ cells) h below =
    by (eqb cell.column n) refl (All-head (λ (k : RowCell). k.column < count) cell cells below)
    (unnamed count n cells h (All-tail (λ (k : RowCell). k.column < count) cell cells below))
  where
    by : (b : Bool) → eqb cell.column n ≡ b → cell.column < count → value_at cells n ≡ pos 0 → (if b then cell.value else value_at cells n) ≡ pos 0
    by true e low rest = let same = eqb-true cell.column n e in absurd (omega (arith, same, low, h))
    by false e low rest = rest

-- what a row has at a point
pub open_spread : (l : LayoutRecord) (point : Point) (value : Column → ℤ) (least : ℤ) (equal : Bool) (row : Row)
    → IsRow l value least equal row → row_sum row point ≡ spread l value (point_weight l point)
open_spread l point value least equal row is =
    let count = length (columns_of l) in
    let g : ℕ → ℤ = value_at row.cells in
    let f : ℕ → ℤ = λ n. g n *ℤ weight_at point.weights n in
    let none : (m : ℕ) → count ≤ m → f m ≡ pos 0 =
    λ m h. ap (λ (z : ℤ). z *ℤ weight_at point.weights m) (unnamed count m row.cells h is.below) ∙ zero-mul_ℤ (weight_at point.weights m) in
    weighed_all g (count + bound_of point.weights) point.weights point.ascending (within_bound count point.weights)
    ∙ total_front f count (bound_of point.weights) none
    ∙ total_places f (λ col. value col *ℤ point_weight l point col) (columns_of l)
    (λ n col e. ap (λ (z : ℤ). z *ℤ weight_at point.weights n) (is.values n col e)
    ∙ ap (λ (k : ℕ). value col *ℤ weight_at point.weights k) (position_of l n col e))
