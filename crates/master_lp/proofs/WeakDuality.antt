-- Numbers at choices that pass no cost are worth at most what a coupling costs.
use Rattle.std.proofs.Common.{◌≡◌, ℕ, zero, suc, ◌+◌, ◌<◌, ◌≤◌, ◌==◌, if◌then◌else◌, Bool, true, false, List, [], ◌∷◌, length, refl, sym, ap, ◌∙◌, arith, ℤ, pos, ◌+ℤ◌, ◌*ℤ◌, ◌≤ℤ◌}
use Rattle.std.specs.List.{All}
use Rattle.std.proofs.lemmas.Int.{ints}
use Rattle.std.proofs.lemmas.List.Elements.{All-head, All-tail}
use Rattle.station.specs.Allowed.{numbers}
use Rattle.ratio.proofs.Ring.{add-mul_ℤ, mul-add_ℤ}
use Rattle.exact_lp.proofs.Order.{mul_le_ℤ}
use Rattle.transport.specs.declared.TableCell.{TableCell}
use Rattle.transport.specs.Coupling.{IsCoupling, at, column_sum, cost_of, products, row_sum, weighted}
use Rattle.leaf_bounds.specs.Total.{only_if, total}
use Rattle.leaf_bounds.proofs.Totals.{mul-none_ℤ, total_add, total_at, total_none, total_numbers_more, total_numbers_same, total_same}
use Rattle.leaf_bounds.proofs.MadeLemmas.{all_same}

pub products_total : (xs ws : List ℤ) (n : ℕ) → products xs ws n ≡ total (λ k. at xs k *ℤ at ws k) (numbers n)
products_total xs ws zero = refl
products_total xs ws (suc n) =
    let rest = products_total xs ws n in
    let more = total_numbers_more (λ k. at xs k *ℤ at ws k) n in
    omega (arith, ints, rest, more)

-- what the cells have under a key
abbrev sum_under : (TableCell → ℕ) → List TableCell → ℕ → ℤ
sum_under key [] k = pos 0
sum_under key (d ∷ ds) k = (if key d == k then d.weight else pos 0) +ℤ sum_under key ds k

row_is : (ds : List TableCell) (k : ℕ) → row_sum ds k ≡ sum_under (λ d. d.row) ds k
row_is [] k = refl
row_is (d ∷ ds) k = ap (λ (z : ℤ). (if d.row == k then d.weight else pos 0) +ℤ z) (row_is ds k)

column_is : (ds : List TableCell) (k : ℕ) → column_sum ds k ≡ sum_under (λ d. d.column) ds k
column_is [] k = refl
column_is (d ∷ ds) k = ap (λ (z : ℤ). (if d.column == k then d.weight else pos 0) +ℤ z) (column_is ds k)

one_more : (b : Bool) (a w r : ℤ) → a *ℤ ((if b then w else pos 0) +ℤ r) ≡ only_if b (a *ℤ w) +ℤ a *ℤ r
one_more true a w r = mul-add_ℤ a w r
one_more false a w r = mul-add_ℤ a (pos 0) r ∙ ap (λ (z : ℤ). z +ℤ a *ℤ r) (mul-none_ℤ a)

-- numbers at keys, times what the cells have under them, cell by cell
by_cells : (f : ℕ → ℤ) (key : TableCell → ℕ) (ds : List TableCell) (n : ℕ) → All (λ d. key d < n) ds
    → total (λ k. f k *ℤ sum_under key ds k) (numbers n) ≡ total (λ d. f (key d) *ℤ d.weight) ds
by_cells f key [] n h =
    total_same (λ k. f k *ℤ pos 0) (λ k. pos 0) (numbers n) (all_same (λ k. f k *ℤ pos 0) (λ k. pos 0) (numbers n) (λ k. mul-none_ℤ (f k)))
    ∙ total_none (numbers n)
by_cells f key (d ∷ ds) n h =
    let g : ℕ → ℤ = λ k. f k *ℤ d.weight in
    let each : ℕ → ℤ = λ k. only_if (key d == k) (g k) +ℤ f k *ℤ sum_under key ds k in
    let all : ℕ → ℤ = λ k. f k *ℤ ((if key d == k then d.weight else pos 0) +ℤ sum_under key ds k) in
    let split : total all (numbers n) ≡ total each (numbers n) =
    total_same all each (numbers n) (all_same all each (numbers n) (λ k. one_more (key d == k) (f k) d.weight (sum_under key ds k))) in
    let add = total_add (λ k. only_if (key d == k) (g k)) (λ k. f k *ℤ sum_under key ds k) (numbers n) in
    let here = total_at g (key d) n (All-head (λ (e : TableCell). key e < n) d ds h) in
    let rest = by_cells f key ds n (All-tail (λ (e : TableCell). key e < n) d ds h) in
    omega (arith, ints, split, add, here, rest)

cells_below : (costs : ℕ → ℕ → ℕ) (f g : ℕ → ℤ) (n m : ℕ) → ((i j : ℕ) → i < n → j < m → (f i +ℤ g j) ≤ℤ pos (costs i j))
    → (ds : List TableCell) → All (λ d. d.row < n) ds → All (λ d. d.column < m) ds → All (λ d. pos 0 ≤ℤ d.weight) ds
    → (total (λ d. f d.row *ℤ d.weight) ds +ℤ total (λ d. g d.column *ℤ d.weight) ds) ≤ℤ cost_of costs ds
cells_below costs f g n m below [] rows columns weights = omega (arith, ints)
cells_below costs f g n m below (d ∷ ds) rows columns weights =
    let rest = cells_below costs f g n m below ds (All-tail (λ (e : TableCell). e.row < n) d ds rows)
    (All-tail (λ (e : TableCell). e.column < m) d ds columns) (All-tail (λ (e : TableCell). pos 0 ≤ℤ e.weight) d ds weights) in
    let here = below d.row d.column (All-head (λ (e : TableCell). e.row < n) d ds rows) (All-head (λ (e : TableCell). e.column < m) d ds columns) in
    let times = mul_le_ℤ (f d.row +ℤ g d.column) (pos (costs d.row d.column)) d.weight (All-head (λ (e : TableCell). pos 0 ≤ℤ e.weight) d ds weights) here in
    let two = add-mul_ℤ (f d.row) (g d.column) d.weight in
    omega (arith, ints, rest, times, two)

pub worth_below : (costs : ℕ → ℕ → ℕ) (xs ys left right : List ℤ) (ds : List TableCell) → IsCoupling left right ds
    → ((i j : ℕ) → i < length left → j < length right → (at xs i +ℤ at ys j) ≤ℤ pos (costs i j))
    → (weighted xs left +ℤ weighted ys right) ≤ℤ cost_of costs ds
worth_below costs xs ys left right ds is below =
    let rows : weighted xs left ≡ total (λ d. at xs d.row *ℤ d.weight) ds =
    products_total xs left (length left)
    ∙ total_numbers_same (λ k. at xs k *ℤ at left k) (λ k. at xs k *ℤ sum_under (λ d. d.row) ds k) (length left)
    (λ k h. ap (λ (z : ℤ). at xs k *ℤ z) (sym (is.row_sums k h) ∙ row_is ds k))
    ∙ by_cells (at xs) (λ d. d.row) ds (length left) is.in_rows in
    let columns : weighted ys right ≡ total (λ d. at ys d.column *ℤ d.weight) ds =
    products_total ys right (length right)
    ∙ total_numbers_same (λ k. at ys k *ℤ at right k) (λ k. at ys k *ℤ sum_under (λ d. d.column) ds k) (length right)
    (λ k h. ap (λ (z : ℤ). at ys k *ℤ z) (sym (is.column_sums k h) ∙ column_is ds k))
    ∙ by_cells (at ys) (λ d. d.column) ds (length right) is.in_columns in
    let cells = cells_below costs (at xs) (at ys) (length left) (length right) below ds is.in_rows is.in_columns is.weights in
    omega (arith, ints, rows, columns, cells)
