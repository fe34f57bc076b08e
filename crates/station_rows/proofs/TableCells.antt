-- Sums over the places of a table that is given by its cells.
use Rattle.std.proofs.Common.{◌≡◌, ℕ, ◌+◌, ◌*◌, ◌<◌, ◌≤◌, ◌==◌, ◌&&◌, if◌then◌else◌, Bool, true, false, List, [], ◌∷◌, refl, ap, ◌∙◌, arith, ℤ, pos, ◌+ℤ◌, ◌*ℤ◌, ◌≤ℤ◌}
use Rattle.std.specs.Prelude.{unsigned_abs}
use Rattle.std.specs.List.{All}
use Rattle.std.proofs.lemmas.Int.{ints}
use Rattle.std.proofs.lemmas.List.Elements.{All-head, All-tail}
use Rattle.station.specs.Allowed.{numbers}
use Rattle.ratio.proofs.Ring.{mul-add_ℤ}
use Rattle.transport.specs.declared.TableCell.{TableCell}
use Rattle.transport.specs.Coupling.{column_sum, cost_of, row_sum}
use Rattle.transport.proofs.Signed.{size_is}
use Rattle.leaf_bounds.specs.Total.{only_if, total}
use Rattle.leaf_bounds.proofs.Totals.{mul-none_ℤ, total_add, total_at, total_none}
use Rattle.station_rows.specs.Tables.{table_weight}
use Rattle.station_rows.proofs.Spread.{total_all_same}

-- what the first cell adds at a place
first_adds : (a b : Bool) (w : ℤ) (n : ℕ) → pos 0 ≤ℤ w → pos ((if a && b then unsigned_abs w else 0) + n) ≡ only_if a (only_if b w) +ℤ pos n
first_adds true true w n h = let size = size_is w h in omega (arith, ints, size)
first_adds true false w n h = omega (arith, ints)
first_adds false b w n h = omega (arith, ints)

-- the order of two tests
turned : (a b : Bool) (w : ℤ) → only_if a (only_if b w) ≡ only_if b (only_if a w)
turned true b w = refl
turned false true w = refl
turned false false w = refl

pub row_of_cells : (cells : List TableCell) (i columns : ℕ) → All (λ c. c.column < columns) cells → All (λ c. pos 0 ≤ℤ c.weight) cells
    → total (λ j. pos (table_weight cells i j)) (numbers columns) ≡ row_sum cells i
row_of_cells [] i columns inside least = total_none (numbers columns)
row_of_cells (c ∷ cs) i columns inside least =
    let rest = row_of_cells cs i columns (All-tail (λ (d : TableCell). d.column < columns) c cs inside) (All-tail (λ (d : TableCell). pos 0 ≤ℤ d.weight) c cs least) in
    let here : ℤ = only_if (c.row == i) c.weight in
    let each = total_all_same (λ j. pos (table_weight (c ∷ cs) i j)) (λ j. only_if (c.column == j) here +ℤ pos (table_weight cs i j)) (numbers columns)
    (λ j. first_adds (c.row == i) (c.column == j) c.weight (table_weight cs i j) (All-head (λ (d : TableCell). pos 0 ≤ℤ d.weight) c cs least)
    ∙ ap (λ (z : ℤ). z +ℤ pos (table_weight cs i j)) (turned (c.row == i) (c.column == j) c.weight)) in
    let both = total_add (λ j. only_if (c.column == j) here) (λ j. pos (table_weight cs i j)) (numbers columns) in
    let one = total_at (λ j. here) c.column columns (All-head (λ (d : TableCell). d.column < columns) c cs inside) in
    omega (arith, ints, rest, each, both, one)

pub column_of_cells : (cells : List TableCell) (j rows : ℕ) → All (λ c. c.row < rows) cells → All (λ c. pos 0 ≤ℤ c.weight) cells
    → total (λ i. pos (table_weight cells i j)) (numbers rows) ≡ column_sum cells j
column_of_cells [] j rows inside least = total_none (numbers rows)
column_of_cells (c ∷ cs) j rows inside least =
    let rest = column_of_cells cs j rows (All-tail (λ (d : TableCell). d.row < rows) c cs inside) (All-tail (λ (d : TableCell). pos 0 ≤ℤ d.weight) c cs least) in
    let here : ℤ = only_if (c.column == j) c.weight in
    let each = total_all_same (λ i. pos (table_weight (c ∷ cs) i j)) (λ i. only_if (c.row == i) here +ℤ pos (table_weight cs i j)) (numbers rows)
    (λ i. first_adds (c.row == i) (c.column == j) c.weight (table_weight cs i j) (All-head (λ (d : TableCell). pos 0 ≤ℤ d.weight) c cs least)) in
    let both = total_add (λ i. only_if (c.row == i) here) (λ i. pos (table_weight cs i j)) (numbers rows) in
    let one = total_at (λ i. here) c.row rows (All-head (λ (d : TableCell). d.row < rows) c cs inside) in
    omega (arith, ints, rest, each, both, one)

-- the cost of a table by its places
abbrev pub placed_cost : (ℕ → ℕ → ℕ) → (ℕ → ℕ → ℕ) → ℕ → ℕ → ℤ
placed_cost costs table rows columns = total (λ i. total (λ j. pos (costs i j) *ℤ pos (table i j)) (numbers columns)) (numbers rows)

scaled_first : (a b : Bool) (k w r : ℤ) → k *ℤ (only_if a (only_if b w) +ℤ r) ≡ only_if b (only_if a (k *ℤ w)) +ℤ k *ℤ r
scaled_first true true k w r = mul-add_ℤ k w r
scaled_first true false k w r = let e = mul-add_ℤ k (pos 0) r in let n = mul-none_ℤ k in omega (arith, ints, e, n)
scaled_first false true k w r = let e = mul-add_ℤ k (pos 0) r in let n = mul-none_ℤ k in omega (arith, ints, e, n)
scaled_first false false k w r = let e = mul-add_ℤ k (pos 0) r in let n = mul-none_ℤ k in omega (arith, ints, e, n)

pub cost_of_cells : (costs : ℕ → ℕ → ℕ) (cells : List TableCell) (rows columns : ℕ) → All (λ c. c.row < rows) cells → All (λ c. c.column < columns) cells
    → All (λ c. pos 0 ≤ℤ c.weight) cells → placed_cost costs (table_weight cells) rows columns ≡ cost_of costs cells
cost_of_cells costs [] rows columns in_rows in_columns least =
    total_all_same (λ i. total (λ j. pos (costs i j) *ℤ pos 0) (numbers columns)) (λ i. pos 0) (numbers rows)
    (λ i. total_all_same (λ j. pos (costs i j) *ℤ pos 0) (λ j. pos 0) (numbers columns) (λ j. mul-none_ℤ (pos (costs i j))) ∙ total_none (numbers columns))
    ∙ total_none (numbers rows)
cost_of_cells costs (c ∷ cs) rows columns in_rows in_columns least =
    let rest = cost_of_cells costs cs rows columns (All-tail (λ (d : TableCell). d.row < rows) c cs in_rows)
    (All-tail (λ (d : TableCell). d.column < columns) c cs in_columns) (All-tail (λ (d : TableCell). pos 0 ≤ℤ d.weight) c cs least) in
    let old : ℕ → ℕ → ℤ = λ i j. pos (costs i j) *ℤ pos (table_weight cs i j) in
    let here : ℕ → ℕ → ℤ = λ i j. only_if (c.row == i) (pos (costs i j) *ℤ c.weight) in
    let last : ℕ → ℤ = λ i. pos (costs i c.column) *ℤ c.weight in
    let each = total_all_same (λ i. total (λ j. pos (costs i j) *ℤ pos (table_weight (c ∷ cs) i j)) (numbers columns))
    (λ i. only_if (c.row == i) (last i) +ℤ total (old i) (numbers columns)) (numbers rows)
    (λ i. total_all_same (λ j. pos (costs i j) *ℤ pos (table_weight (c ∷ cs) i j)) (λ j. only_if (c.column == j) (here i j) +ℤ old i j) (numbers columns)
    (λ j. ap (λ (z : ℤ). pos (costs i j) *ℤ z)
    (first_adds (c.row == i) (c.column == j) c.weight (table_weight cs i j) (All-head (λ (d : TableCell). pos 0 ≤ℤ d.weight) c cs least))
    ∙ scaled_first (c.row == i) (c.column == j) (pos (costs i j)) c.weight (pos (table_weight cs i j)))
    ∙ total_add (λ j. only_if (c.column == j) (here i j)) (old i) (numbers columns)
    ∙ ap (λ (z : ℤ). z +ℤ total (old i) (numbers columns)) (total_at (here i) c.column columns (All-head (λ (d : TableCell). d.column < columns) c cs in_columns))) in
    let both = total_add (λ i. only_if (c.row == i) (last i)) (λ i. total (old i) (numbers columns)) (numbers rows) in
    let one = total_at last c.row rows (All-head (λ (d : TableCell). d.row < rows) c cs in_rows) in
    omega (arith, ints, rest, each, both, one)
