-- A variable with a positive cell in the cost row has one in another row: otherwise its value could grow without end, and the cost
-- would fall below what prices of at least 0 allow.
use Rattle.std.proofs.Common.{◌≡◌, ℕ, zero, suc, ◌+◌, ◌-◌, ◌<◌, ◌≤◌, arith, sym, ap, subst, ◌∙◌, List, [], ◌∷◌, length, map, replicate, below_more, ℤ, pos, neg_ℤ, ◌+ℤ◌, ◌*ℤ◌, ◌<ℤ◌, ◌≤ℤ◌}
use Rattle.std.specs.Prelude.{All}
use Rattle.std.proofs.lemmas.Int.{ints}
use Rattle.std.proofs.lemmas.List.{length-map, length-replicate, get_or_default}
use Rattle.std.proofs.lemmas.List.Elements.{All-head, All-tail}
use Rattle.ratio.specs.Cells.{cell_at, dot}
use Rattle.ratio.proofs.Ring.{mul_assoc_ℤ, mul_comm_ℤ, mul-neg_ℤ}
use Rattle.ratio.proofs.Signed.{mul_positive}
use Rattle.exact_lp.specs.Places.{place_of}
use Rattle.exact_lp.specs.Tables.{IsTable, price_cells, row_at, number_at}
use Rattle.exact_lp.proofs.Order.{mul_le_ℤ, mul_le_left_ℤ}
use Rattle.exact_lp.proofs.Values.{added, length-added, dot-added, dot-scaled, dot-zeros}

-- the variable has a positive cell in the cost row, and in no other
pub record IsUnbounded (rows : List (List ℤ)) (cost : List ℤ) (variable : ℕ) : Type 0 where
  pub improves : pos 0 <ℤ cell_at cost (place_of variable)
  pub rowless : All (λ row. cell_at row (place_of variable) ≤ℤ pos 0) rows

below_zero : (ps : List ℤ) → All (λ p. pos 0 ≤ℤ p) ps → (k : ℕ) → cell_at (map neg_ℤ ps) k ≤ℤ pos 0
below_zero [] dear k = omega (arith, ints)
below_zero (p ∷ ps) dear zero = turned p (All-head (λ p. pos 0 ≤ℤ p) p ps dear)
  where
    turned : (p : ℤ) → pos 0 ≤ℤ p → neg_ℤ p ≤ℤ pos 0
    turned p h = omega (arith, ints)
below_zero (p ∷ ps) dear (suc k) = below_zero ps (All-tail (λ p. pos 0 ≤ℤ p) p ps dear) k

pub price_cell : (ps : List ℤ) → All (λ p. pos 0 ≤ℤ p) ps → (v : ℕ) → cell_at (price_cells ps) (place_of v) ≤ℤ pos 0
price_cell ps dear v =
    let e : place_of v ≡ suc (suc (place_of v - 2)) = omega arith in
    subst (λ (k : ℕ). cell_at (price_cells ps) k ≤ℤ pos 0) (sym e) (below_zero ps dear (place_of v - 2))

-- values along which the first n rows stay as they are, and that cost nothing less
record IsRay (rows : List (List ℤ)) (basis : List ℕ) (place wide n : ℕ) (values : List ℤ) (amount : ℤ) : Type 0 where
  above : pos 0 <ℤ amount
  long : length values ≡ wide
  solves : (k : ℕ) → k < n → dot (row_at rows k) values ≡ pos 0
  reads : (cells : List ℤ) → ((k : ℕ) → k < n → cell_at cells (place_of (number_at basis k)) ≡ pos 0) → dot cells values ≡ cell_at cells place *ℤ amount
  falls : (ps : List ℤ) → All (λ p. pos 0 ≤ℤ p) ps → dot (price_cells ps) values ≤ℤ pos 0

abbrev Ray : (rows : List (List ℤ)) (basis : List ℕ) (place wide n : ℕ) → Type 0
Ray rows basis place wide n = (values : List ℤ) × (amount : ℤ) × IsRay rows basis place wide n values amount

times_one : (z : ℤ) → z *ℤ pos 1 ≡ z
times_one z = omega (arith, ints)

start : (rows : List (List ℤ)) (basis : List ℕ) (v wide : ℕ) → place_of v < wide → IsRay rows basis (place_of v) wide 0 (added (replicate wide (pos 0)) (place_of v) (pos 1)) (pos 1)
start rows basis v wide inside =
    let none = replicate wide (pos 0) in
    let long : length none ≡ wide = length-replicate wide (pos 0) in
    let one : (cells : List ℤ) → dot cells (added none (place_of v) (pos 1)) ≡ cell_at cells (place_of v) *ℤ pos 1 =
    λ cells. dot-added cells none (place_of v) (pos 1) (omega arith) ∙ nothing_more (dot cells none) (cell_at cells (place_of v) *ℤ pos 1) (dot-zeros cells wide) in
    record {
      above = omega (arith, ints);
      long = length-added none (place_of v) (pos 1) ∙ long;
      solves = λ k h. absurd (omega arith);
      reads = λ cells clear. one cells;
      falls = λ ps dear. at_most (one (price_cells ps) ∙ times_one (cell_at (price_cells ps) (place_of v))) (price_cell ps dear v);
    }
  where
    nothing_more : (s p : ℤ) → s ≡ pos 0 → s +ℤ p ≡ p
    nothing_more s p e = omega (arith, ints)

    at_most : {a b : ℤ} → a ≡ b → b ≤ℤ pos 0 → a ≤ℤ pos 0
    at_most e h = omega (arith, ints)

pub neg_product : (t m : ℤ) → neg_ℤ t *ℤ m ≡ neg_ℤ (t *ℤ m)
neg_product t m = mul_comm_ℤ (neg_ℤ t) m ∙ mul-neg_ℤ m t ∙ ap neg_ℤ (mul_comm_ℤ m t)

balance : (q s t m : ℤ) → s ≡ t *ℤ m → q *ℤ s +ℤ q *ℤ (neg_ℤ t *ℤ m) ≡ pos 0
balance q s t m e = (λ i. q *ℤ e i +ℤ q *ℤ neg_product t m i) ∙ ap (λ (z : ℤ). q *ℤ (t *ℤ m) +ℤ z) (mul-neg_ℤ q (t *ℤ m)) ∙ cancelled (q *ℤ (t *ℤ m))
  where
    cancelled : (z : ℤ) → z +ℤ neg_ℤ z ≡ pos 0
    cancelled z = omega (arith, ints)

gone : (q s c x : ℤ) → s ≡ pos 0 → c ≡ pos 0 → q *ℤ s +ℤ c *ℤ x ≡ pos 0
gone q s c x e h = (λ i. q *ℤ e i +ℤ h i *ℤ x) ∙ none q x
  where
    none : (q x : ℤ) → q *ℤ pos 0 +ℤ pos 0 *ℤ x ≡ pos 0
    none q x = omega (arith, ints)

read : (q s c x t m : ℤ) → s ≡ t *ℤ m → c ≡ pos 0 → q *ℤ s +ℤ c *ℤ x ≡ t *ℤ (q *ℤ m)
read q s c x t m e h =
    (λ i. q *ℤ e i +ℤ h i *ℤ x) ∙ alone (q *ℤ (t *ℤ m)) x ∙ sym (mul_assoc_ℤ q t m) ∙ ap (λ (z : ℤ). z *ℤ m) (mul_comm_ℤ q t) ∙ mul_assoc_ℤ t q m
  where
    alone : (p x : ℤ) → p +ℤ pos 0 *ℤ x ≡ p
    alone p x = omega (arith, ints)

-- products with a factor that is at most 0
pub times_below : (q d : ℤ) → pos 0 <ℤ q → d ≤ℤ pos 0 → (q *ℤ d) ≤ℤ pos 0
times_below q d some h = under (mul_le_left_ℤ q d (pos 0) (omega (arith, ints)) h) (none q)
  where
    none : (q : ℤ) → q *ℤ pos 0 ≡ pos 0
    none q = omega (arith, ints)

    under : {a b : ℤ} → a ≤ℤ b → b ≡ pos 0 → a ≤ℤ pos 0
    under h e = omega (arith, ints)

times_above : (t m : ℤ) → pos 0 <ℤ m → t ≤ℤ pos 0 → pos 0 ≤ℤ (neg_ℤ t *ℤ m)
times_above t m some h = over (mul_le_ℤ (pos 0) (neg_ℤ t) m (omega (arith, ints)) (turned t h)) (none m)
  where
    turned : (t : ℤ) → t ≤ℤ pos 0 → pos 0 ≤ℤ neg_ℤ t
    turned t h = omega (arith, ints)

    none : (m : ℤ) → pos 0 *ℤ m ≡ pos 0
    none m = omega (arith, ints)

    over : {a b : ℤ} → a ≤ℤ b → a ≡ pos 0 → pos 0 ≤ℤ b
    over h e = omega (arith, ints)

below_times : (c x : ℤ) → c ≤ℤ pos 0 → pos 0 ≤ℤ x → (c *ℤ x) ≤ℤ pos 0
below_times c x h some = under (mul_le_ℤ c (pos 0) x some h) (none x)
  where
    none : (m : ℤ) → pos 0 *ℤ m ≡ pos 0
    none m = omega (arith, ints)

    under : {a b : ℤ} → a ≤ℤ b → b ≡ pos 0 → a ≤ℤ pos 0
    under h e = omega (arith, ints)

both_below : {a b s : ℤ} → s ≡ a +ℤ b → a ≤ℤ pos 0 → b ≤ℤ pos 0 → s ≤ℤ pos 0
both_below e h k = omega (arith, ints)

more : (rows : List (List ℤ)) (basis : List ℕ) (place wide n : ℕ) (values : List ℤ) (amount : ℤ) → IsRay rows basis place wide n values amount
    → place_of (number_at basis n) < wide → pos 0 <ℤ cell_at (row_at rows n) (place_of (number_at basis n))
    → ((k : ℕ) → k < n → cell_at (row_at rows n) (place_of (number_at basis k)) ≡ pos 0)
    → ((k : ℕ) → k < n → cell_at (row_at rows k) (place_of (number_at basis n)) ≡ pos 0)
    → cell_at (row_at rows n) place ≤ℤ pos 0
    → IsRay rows basis place wide (n + 1)
    (added (map (λ (y : ℤ). cell_at (row_at rows n) (place_of (number_at basis n)) *ℤ y) values) (place_of (number_at basis n)) (neg_ℤ (cell_at (row_at rows n) place) *ℤ amount))
    (cell_at (row_at rows n) (place_of (number_at basis n)) *ℤ amount)
more rows basis place wide n values amount ray inside some clear_here clear_there below =
    let row = row_at rows n in
    let at = place_of (number_at basis n) in
    let q = cell_at row at in
    let t = cell_at row place in
    let x = neg_ℤ t *ℤ amount in
    let scaled = map (λ (y : ℤ). q *ℤ y) values in
    let long : length scaled ≡ wide = length-map values (λ (y : ℤ). q *ℤ y) ∙ ray.long in
    let sum : (cells : List ℤ) → dot cells (added scaled at x) ≡ q *ℤ dot cells values +ℤ cell_at cells at *ℤ x =
    λ cells. dot-added cells scaled at x (omega arith) ∙ ap (λ (z : ℤ). z +ℤ cell_at cells at *ℤ x) (dot-scaled q cells values) in
    let Solved : ℕ → Type 0 = λ k. dot (row_at rows k) (added scaled at x) ≡ pos 0 in
    record {
      above = mul_positive q amount some ray.above;
      long = length-added scaled at x ∙ long;
      solves = below_more Solved n
          (λ k h. sum (row_at rows k) ∙ gone q (dot (row_at rows k) values) (cell_at (row_at rows k) at) x (ray.solves k h) (clear_there k h))
          (sum row ∙ balance q (dot row values) t amount (ray.reads row clear_here));
      reads = λ cells clear. sum cells ∙ read q (dot cells values) (cell_at cells at) x (cell_at cells place) amount (ray.reads cells (λ k h. clear k (omega arith))) (clear n (omega arith));
      falls = λ ps dear. both_below (sum (price_cells ps)) (times_below q (dot (price_cells ps) values) some (ray.falls ps dear)) (below_times (cell_at (price_cells ps) at) x (price_cell ps dear (number_at basis n)) (times_above t amount ray.above below));
    }

grown : (n : ℕ) → n + 1 ≡ suc n
grown n = omega arith

rays : (rows : List (List ℤ)) (cost : List ℤ) (variables : ℕ) (basis spares : List ℕ) (v : ℕ) → IsTable rows cost variables basis spares → v < variables
    → All (λ row. cell_at row (place_of v) ≤ℤ pos 0) rows → (n : ℕ) → n ≤ length rows → Ray rows basis (place_of v) (variables + 2) n
rays rows cost variables basis spares v table inside rowless zero h = (added (replicate (variables + 2) (pos 0)) (place_of v) (pos 1), pos 1, start rows basis v (variables + 2) (omega arith))
rays rows cost variables basis spares v table inside rowless (suc n) h =
    let ray = rays rows cost variables basis spares v table inside rowless n (omega arith) in
    let Grown : ℕ → Type 0 = λ m. IsRay rows basis (place_of v) (variables + 2) m
    (added (map (λ (y : ℤ). cell_at (row_at rows n) (place_of (number_at basis n)) *ℤ y) ray.0) (place_of (number_at basis n)) (neg_ℤ (cell_at (row_at rows n) (place_of v)) *ℤ ray.1))
    (cell_at (row_at rows n) (place_of (number_at basis n)) *ℤ ray.1) in
    let basic = table.basic n (omega arith) in (
      _,
      _,
      subst Grown (grown n)
          (more rows basis (place_of v) (variables + 2) n ray.0 ray.1 ray.2 (omega arith) (table.own n (omega arith))
          (λ k l. table.apart n k (omega arith) (omega arith) (omega arith))
          (λ k l. table.apart k n (omega arith) (omega arith) (omega arith))
          (rowless n [] (omega arith))),
    )

pub improving_has_row : (rows : List (List ℤ)) (cost : List ℤ) (variables : ℕ) (basis spares : List ℕ) (v : ℕ)
    → IsTable rows cost variables basis spares → v < variables → IsUnbounded rows cost v → ⊥
improving_has_row rows cost variables basis spares v table inside unbounded =
    let ray = rays rows cost variables basis spares v table inside unbounded.rowless (length rows) (omega arith) in
    let is = ray.2 in
    let q = cell_at cost 1 in
    let p = cell_at cost (place_of v) *ℤ ray.1 in
    let x = neg_ℤ p in
    let scaled = map (λ (y : ℤ). q *ℤ y) ray.0 in
    let values = added scaled 1 x in
    let long : length scaled ≡ variables + 2 = length-map ray.0 (λ (y : ℤ). q *ℤ y) ∙ is.long in
    let sum : (cells : List ℤ) → dot cells values ≡ q *ℤ dot cells ray.0 +ℤ cell_at cells 1 *ℤ x =
    λ cells. dot-added cells scaled 1 x (omega arith) ∙ ap (λ (z : ℤ). z +ℤ cell_at cells 1 *ℤ x) (dot-scaled q cells ray.0) in
    let Solved : List ℤ → Type 0 = λ row. dot row values ≡ pos 0 in
    let hold : All Solved rows = λ k d h. subst Solved (get_or_default rows k [] d h)
    (sum (row_at rows k) ∙ gone q (dot (row_at rows k) ray.0) (cell_at (row_at rows k) 1) x (is.solves k h) (table.costless k h)) in
    let costs : dot cost values ≡ pos 0 = sum cost ∙ level q (dot cost ray.0) p (is.reads cost table.cleared) in
    let priced = (table.meant values hold).0 costs in
    let rays_price = times_below q (dot (price_cells table.prices) ray.0) table.costs (is.falls table.prices table.dear) in
    fallen (q *ℤ dot (price_cells table.prices) ray.0) p (dot (price_cells table.prices) values) rays_price (mul_positive (cell_at cost (place_of v)) ray.1 unbounded.improves is.above) (sum (price_cells table.prices)) priced
  where
    level : (q s p : ℤ) → s ≡ p → q *ℤ s +ℤ q *ℤ neg_ℤ p ≡ pos 0
    level q s p e = ap (λ (z : ℤ). q *ℤ z +ℤ q *ℤ neg_ℤ p) e ∙ ap (λ (z : ℤ). q *ℤ p +ℤ z) (mul-neg_ℤ q p) ∙ cancelled (q *ℤ p)
      where
        cancelled : (z : ℤ) → z +ℤ neg_ℤ z ≡ pos 0
        cancelled z = omega (arith, ints)

    fallen : (a p s : ℤ) → a ≤ℤ pos 0 → pos 0 <ℤ p → s ≡ a +ℤ pos 1 *ℤ neg_ℤ p → s ≡ pos 0 → ⊥
    fallen a p s h k e f = omega (arith, ints)
