-- There is a row of any values, and what it says where it holds.
use Rattle.std.proofs.Common.{◌≡◌, ℕ, zero, suc, ◌+◌, ◌<◌, ◌≤◌, if◌then◌else◌, Bool, true, false, eqb, length, map, get_or, refl, sym, ap, ◌∙◌, subst, arith, ℤ, ◌*ℤ◌, ◌≤ℤ◌}
use Rattle.std.specs.Prelude.{MatchBool}
use Rattle.std.specs.List.{range_with_len}
use Rattle.std.proofs.lemmas.Bool.{eqb-true, eqb-false}
use Rattle.std.proofs.lemmas.List.{length-map}
use Rattle.std.proofs.lemmas.List.FromFn.{length-range_with_len}
use Rattle.std.proofs.lemmas.List.Elements.{All-map}
use Rattle.std.proofs.lemmas.Option.{get_or_from_slice_get, slice_get_within}
use Rattle.station.specs.Allowed.{numbers}
use Rattle.patterns.proofs.SoundLemmas.{numbers_below}
use Rattle.exact_lp.specs.declared.row.Row.{Row}
use Rattle.exact_lp.specs.declared.row.RowCell.{RowCell}
use Rattle.exact_lp.specs.declared.point.Point.{Point}
use Rattle.exact_lp.specs.Columns.{AreAscendingCells, value_at}
use Rattle.exact_lp.specs.Programs.{Holds, row_sum}
use Rattle.pattern_pricing.specs.declared.column.Column.{Column}
use Rattle.pattern_pricing.specs.declared.column.Column.TheVariants.{LeftOut}
use Rattle.pattern_pricing.specs.Layout.{LayoutRecord, columns_of}
use Rattle.pattern_pricing.proofs.Spots.{mapped_at}
use Rattle.station_rows.specs.Rows.{IsRow}

abbrev cell_of : (ℕ → ℤ) → ℕ → RowCell
cell_of v n = record { column = n; value = v n }

cells_rise : (v : ℕ → ℤ) (n : ℕ) → AreAscendingCells (map (cell_of v) (numbers n))
cells_rise v n k d h =
    let long = length-map (numbers n) (cell_of v) in
    let range = length-range_with_len 0 n in
    let cells = map (cell_of v) (numbers n) in
    let at_k : get_or cells k d ≡ cell_of v (0 + k) = get_or_from_slice_get cells k (cell_of v (0 + k)) d (mapped_at (cell_of v) 0 n k (omega (arith, long, range, h))) in
    let at_next : get_or cells (k + 1) d ≡ cell_of v (0 + (k + 1)) =
    get_or_from_slice_get cells (k + 1) (cell_of v (0 + (k + 1))) d (mapped_at (cell_of v) 0 n (k + 1) (omega (arith, long, range, h))) in
    let a = ap (λ (c : RowCell). c.column) at_k in
    let b = ap (λ (c : RowCell). c.column) at_next in
    omega (arith, a, b)

cells_give : (v : ℕ → ℤ) (a n m : ℕ) → a ≤ m → m < a + n → value_at (map (cell_of v) (range_with_len a n)) m ≡ v m
cells_give v a zero m h k = absurd (omega arith)
cells_give v a (suc n) m h k = by (eqb a m) refl (λ l. cells_give v (a + 1) n m l (omega arith))
  where
    by : (b : Bool) → eqb a m ≡ b → (a + 1 ≤ m → value_at (map (cell_of v) (range_with_len (a + 1) n)) m ≡ v m)
        → (if b then v a else value_at (map (cell_of v) (range_with_len (a + 1) n)) m) ≡ v m
    by true e rest = ap v (eqb-true a m e)
    by false e rest = let ne = eqb-false a m e in rest (omega arith)

pub made_row : (l : LayoutRecord) (value : Column → ℤ) (least : ℤ) (equal : Bool) → (row : Row) × IsRow l value least equal row
made_row l value least equal =
    let count = length (columns_of l) in
    let v : ℕ → ℤ = λ n. value (get_or (columns_of l) n (LeftOut 0)) in (
      record { least = least; equal = equal; cells = map (cell_of v) (numbers count); ascending = cells_rise v count },
      record {
        least_is = refl;
        equal_is = refl;
        below = All-map (λ (c : RowCell). c.column < count) (cell_of v) (numbers count) (numbers_below count);
        values = λ n col e.
            cells_give v 0 count n (omega arith) (let h = slice_get_within (columns_of l) n col e in omega (arith, h))
            ∙ ap value (get_or_from_slice_get (columns_of l) n col (LeftOut 0) e);
      },
    )

-- an equal row
pub holds_equal : (row : Row) (point : Point) (least : ℤ) → row.equal ≡ true → row.least ≡ least → Holds row point → row_sum row point ≡ least *ℤ point.scale
holds_equal row point least e m h =
    let P : Bool → Type 0 = λ b. MatchBool b (row_sum row point ≡ row.least *ℤ point.scale) ((row.least *ℤ point.scale) ≤ℤ row_sum row point) in
    let g : row_sum row point ≡ row.least *ℤ point.scale = subst P e h in
    g ∙ ap (λ (z : ℤ). z *ℤ point.scale) m

pub equal_holds : (row : Row) (point : Point) (least : ℤ) → row.equal ≡ true → row.least ≡ least → row_sum row point ≡ least *ℤ point.scale → Holds row point
equal_holds row point least e m h =
    let P : Bool → Type 0 = λ b. MatchBool b (row_sum row point ≡ row.least *ℤ point.scale) ((row.least *ℤ point.scale) ≤ℤ row_sum row point) in
    let g : row_sum row point ≡ row.least *ℤ point.scale = h ∙ ap (λ (z : ℤ). z *ℤ point.scale) (sym m) in
    subst P (sym e) g

-- a row that isn't equal
pub holds_least : (row : Row) (point : Point) (least : ℤ) → row.equal ≡ false → row.least ≡ least → Holds row point → (least *ℤ point.scale) ≤ℤ row_sum row point
holds_least row point least e m h =
    let P : Bool → Type 0 = λ b. MatchBool b (row_sum row point ≡ row.least *ℤ point.scale) ((row.least *ℤ point.scale) ≤ℤ row_sum row point) in
    let Q : ℤ → Type 0 = λ z. (z *ℤ point.scale) ≤ℤ row_sum row point in
    subst Q m (subst P e h)

pub least_holds : (row : Row) (point : Point) (least : ℤ) → row.equal ≡ false → row.least ≡ least → (least *ℤ point.scale) ≤ℤ row_sum row point → Holds row point
least_holds row point least e m h =
    let P : Bool → Type 0 = λ b. MatchBool b (row_sum row point ≡ row.least *ℤ point.scale) ((row.least *ℤ point.scale) ≤ℤ row_sum row point) in
    let Q : ℤ → Type 0 = λ z. (z *ℤ point.scale) ≤ℤ row_sum row point in
    subst P (sym e) (subst Q (sym m) h)
