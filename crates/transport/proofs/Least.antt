-- The coupling is least.
use Rattle.std.proofs.Common.{◌≡◌, ℕ, ◌+◌, ◌*◌, ◌<◌, ◌≤◌, ℤ, pos, ◌+ℤ◌, ◌-ℤ◌, ◌≤ℤ◌, ◌<ℤ◌, List, length, map, sym, ap, ◌∙◌, subst, arith, slice_index, slice_index_or, sum_by, unsigned_abs}
use Rattle.std.specs.List.{All}
use Rattle.std.proofs.lemmas.Int.{ints}
use Rattle.std.proofs.lemmas.List.{length-map}
use Rattle.std.proofs.Math.ListN.{get_or-map}
use Rattle.std.proofs.lemmas.List.Elements.{All-from_get_or}
use Rattle.transport.specs.declared.TableCell.{TableCell}
use Rattle.transport.specs.declared.entries.Entry.{Entry}
use Rattle.transport.specs.Core.{entry_at, no_entry, row_weight, column_weight, cost_in, IsSolved, IsTidy}
use Rattle.transport.specs.Coupling.{at, weighted, cost_of, no_cell, IsCoupling, ComesBefore, IsLeastCost, IsLeastCoupling}
use Rattle.transport.specs.Natural.{cell_of, entry_of}
use Rattle.transport.proofs.Duality.{dot, dot_same, weight_in, grouped, worth_le, worth_eq, weight_grouped}
use Rattle.transport.proofs.Signed.{size_is, row_sum_is, column_sum_is, cost_of_is, entries_of_cells, lifted_products, below_of, size_of, unlift_at, worth_of}

-- the sizes of the weights, place by place
abbrev pub sizes_at : List ℤ → ℕ → ℕ
sizes_at ws i = unsigned_abs (at ws i)

at_ok : (ws : List ℤ) → All (λ w. pos 0 ≤ℤ w) ws → (i : ℕ) → i < length ws → at ws i ≡ pos (sizes_at ws i)
at_ok ws ok i il = sym (size_is (at ws i) (ok i (pos 0) il))

sizes_map : (ws : List ℤ) (i : ℕ) → slice_index (map unsigned_abs ws) i ≡ sizes_at ws i
sizes_map ws i = get_or-map unsigned_abs ws i (pos 0)

entry_map : (cs : List TableCell) (k : ℕ) → entry_at (map entry_of cs) k ≡ entry_of (slice_index_or cs k no_cell)
entry_map cs k = get_or-map entry_of cs k no_cell

cell_map : (es : List Entry) (k : ℕ) → slice_index_or (map cell_of es) k no_cell ≡ cell_of (entry_at es k)
cell_map es k = get_or-map cell_of es k no_entry

module _ (left right : List ℤ) (cs : List TableCell) (c : IsCoupling left right cs) where
  pub rows_in : (k : ℕ) → k < length (map entry_of cs) → (entry_at (map entry_of cs) k).row < length left
  rows_in k kl = let P : Entry → Type 0 = λ e. e.row < length left in subst P (sym (entry_map cs k)) (c.in_rows k no_cell (let e = length-map cs entry_of in omega arith))

  pub columns_in : (k : ℕ) → k < length (map entry_of cs) → (entry_at (map entry_of cs) k).column < length right
  columns_in k kl = let P : Entry → Type 0 = λ e. e.column < length right in subst P (sym (entry_map cs k)) (c.in_columns k no_cell (let e = length-map cs entry_of in omega arith))

  pub rows_are : (i : ℕ) → i < length left → sizes_at left i ≡ row_weight (map entry_of cs) i
  rows_are i il = ap unsigned_abs (sym (c.row_sums i il) ∙ row_sum_is cs i c.weights)

  pub columns_are : (j : ℕ) → j < length right → sizes_at right j ≡ column_weight (map entry_of cs) j
  columns_are j jl = ap unsigned_abs (sym (c.column_sums j jl) ∙ column_sum_is cs j c.weights)

  worth_rows : (f : ℕ → ℕ) → dot f (sizes_at left) (length left) ≡ sum_by (λ e. f e.row * e.weight) (map entry_of cs)
  worth_rows f = dot_same f (sizes_at left) (row_weight (map entry_of cs)) (length left) rows_are ∙ grouped f (λ e. e.row) (map entry_of cs) (length left) rows_in

  worth_columns : (f : ℕ → ℕ) → dot f (sizes_at right) (length right) ≡ sum_by (λ e. f e.column * e.weight) (map entry_of cs)
  worth_columns f = dot_same f (sizes_at right) (column_weight (map entry_of cs)) (length right) columns_are ∙ grouped f (λ e. e.column) (map entry_of cs) (length right) columns_in

  pub whole_rows : dot (λ _. 1) (sizes_at left) (length left) ≡ weight_in (map entry_of cs)
  whole_rows = dot_same (λ _. 1) (sizes_at left) (row_weight (map entry_of cs)) (length left) rows_are ∙ weight_grouped (λ e. e.row) (map entry_of cs) (length left) rows_in

  pub whole_columns : dot (λ _. 1) (sizes_at right) (length right) ≡ weight_in (map entry_of cs)
  whole_columns = dot_same (λ _. 1) (sizes_at right) (column_weight (map entry_of cs)) (length right) columns_are ∙ weight_grouped (λ e. e.column) (map entry_of cs) (length right) columns_in

module _ (t : ℕ → ℕ → ℕ) (left right : List ℤ) (es : List Entry) (R K : List ℕ)
    (left_ok : All (λ w. pos 0 ≤ℤ w) left) (right_ok : All (λ w. pos 0 ≤ℤ w) right)
    (s : IsSolved t (map unsigned_abs left) (map unsigned_abs right) es R K) where
  left_length : length R ≡ length left
  left_length = s.rows_length ∙ length-map left unsigned_abs

  right_length : length K ≡ length right
  right_length = s.columns_length ∙ length-map right unsigned_abs

  nonneg : (n : ℕ) → pos 0 ≤ℤ pos n
  nonneg n = omega (arith, ints)

  above : (n : ℕ) → 0 < n → pos 0 <ℤ pos n
  above n h = omega (arith, ints)

  cells_ok : All (λ c. pos 0 ≤ℤ c.weight) (map cell_of es)
  cells_ok = let P : TableCell → Type 0 = λ c. pos 0 ≤ℤ c.weight in All-from_get_or P (map cell_of es) no_cell (λ k kl. subst P (sym (cell_map es k)) (nonneg _))

  pub is_coupling : IsCoupling left right (map cell_of es)
  is_coupling =
      let len = length-map es cell_of in
      record {
        in_rows = let P : TableCell → Type 0 = λ c. c.row < length left in All-from_get_or P (map cell_of es) no_cell (λ k kl. subst P (sym (cell_map es k)) (let h = (s.placed k (omega arith)).row in let e = left_length in omega arith));
        in_columns = let P : TableCell → Type 0 = λ c. c.column < length right in All-from_get_or P (map cell_of es) no_cell (λ k kl. subst P (sym (cell_map es k)) (let h = (s.placed k (omega arith)).column in let e = right_length in omega arith));
        weights = cells_ok;
        row_sums = λ i il. row_sum_is (map cell_of es) i cells_ok ∙ ap (λ x. pos (row_weight x i)) (entries_of_cells es) ∙ ap pos (s.row_sums i (let e = length-map left unsigned_abs in omega arith) ∙ sizes_map left i) ∙ sym (at_ok left left_ok i il);
        column_sums = λ j jl. column_sum_is (map cell_of es) j cells_ok ∙ ap (λ x. pos (column_weight x j)) (entries_of_cells es) ∙ ap pos (s.column_sums j (let e = length-map right unsigned_abs in omega arith) ∙ sizes_map right j) ∙ sym (at_ok right right_ok j jl);
      }

  -- what every coupling costs at least, lifted
  worth_at_most : (cs : List TableCell) → IsCoupling left right cs → dot (slice_index R) (sizes_at left) (length left) + dot (slice_index K) (sizes_at right) (length right) ≤ cost_in t (map entry_of cs) + 20000000000000 * weight_in (map entry_of cs)
  worth_at_most cs c =
      let a = worth_rows left right cs c (slice_index R) in
      let b = worth_columns left right cs c (slice_index K) in
      let w = worth_le t (slice_index R) (slice_index K) (map entry_of cs) (λ k kl. s.feasible _ _ (let h = rows_in left right cs c k kl in let e = left_length in omega arith) (let h = columns_in left right cs c k kl in let e = right_length in omega arith)) in
      omega arith

  -- and what this one costs
  worth_here : dot (slice_index R) (sizes_at left) (length left) + dot (slice_index K) (sizes_at right) (length right) ≡ cost_in t es + 20000000000000 * weight_in es
  worth_here =
      let a = worth_rows left right (map cell_of es) is_coupling (slice_index R) ∙ ap (λ x. sum_by (λ e. slice_index R e.row * e.weight) x) (entries_of_cells es) in
      let b = worth_columns left right (map cell_of es) is_coupling (slice_index K) ∙ ap (λ x. sum_by (λ e. slice_index K e.column * e.weight) x) (entries_of_cells es) in
      let w = worth_eq t (slice_index R) (slice_index K) es (λ k kl some. (s.placed k kl).tight some) in
      omega arith

  whole : dot (λ _. 1) (sizes_at left) (length left) ≡ weight_in es
  whole = whole_rows left right (map cell_of es) is_coupling ∙ ap weight_in (entries_of_cells es)

  whole' : dot (λ _. 1) (sizes_at right) (length right) ≡ weight_in es
  whole' = whole_columns left right (map cell_of es) is_coupling ∙ ap weight_in (entries_of_cells es)

  cost_here : cost_of t (map cell_of es) ≡ pos (cost_in t es)
  cost_here = cost_of_is t (map cell_of es) cells_ok ∙ ap (λ x. pos (cost_in t x)) (entries_of_cells es)

  alpha_at : (k : ℕ) → k < length left → at (map (λ p. pos p -ℤ pos 10000000000000) R) k +ℤ pos 10000000000000 ≡ pos (slice_index R k)
  alpha_at k kl = unlift_at R k (let e = left_length in omega arith)

  beta_at : (k : ℕ) → k < length right → at (map (λ p. pos p -ℤ pos 10000000000000) K) k +ℤ pos 10000000000000 ≡ pos (slice_index K k)
  beta_at k kl = unlift_at K k (let e = right_length in omega arith)

  alpha_worth : weighted (map (λ p. pos p -ℤ pos 10000000000000) R) left +ℤ pos (10000000000000 * weight_in es) ≡ pos (dot (slice_index R) (sizes_at left) (length left))
  alpha_worth = ap (λ x. weighted (map (λ p. pos p -ℤ pos 10000000000000) R) left +ℤ pos (10000000000000 * x)) (sym whole) ∙ lifted_products (map (λ p. pos p -ℤ pos 10000000000000) R) left (slice_index R) (sizes_at left) (length left) alpha_at (at_ok left left_ok)

  beta_worth : weighted (map (λ p. pos p -ℤ pos 10000000000000) K) right +ℤ pos (10000000000000 * weight_in es) ≡ pos (dot (slice_index K) (sizes_at right) (length right))
  beta_worth = ap (λ x. weighted (map (λ p. pos p -ℤ pos 10000000000000) K) right +ℤ pos (10000000000000 * x)) (sym whole') ∙ lifted_products (map (λ p. pos p -ℤ pos 10000000000000) K) right (slice_index K) (sizes_at right) (length right) beta_at (at_ok right right_ok)

  ordered : (a b : ℕ) → a ≤ b → pos a ≤ℤ pos b
  ordered a b h = omega (arith, ints)

  least_here : (cs : List TableCell) → IsCoupling left right cs → cost_of t (map cell_of es) ≤ℤ cost_of t cs
  least_here cs c =
      let a = worth_at_most cs c in
      let b = worth_here in
      let w = whole_rows left right cs c in
      let v = whole in
      let P : ℤ → Type 0 = λ z. z ≤ℤ cost_of t cs in
      let Q : ℤ → Type 0 = λ z. pos (cost_in t es) ≤ℤ z in
      subst P (sym cost_here) (subst Q (sym (cost_of_is t cs c.weights)) (ordered _ _ (omega arith)))

  pub is_least_cost : IsLeastCost t left right (pos (cost_in t es))
  is_least_cost = record {
    reached = (map cell_of es, is_coupling, cost_here);
    least = λ cs c. let P : ℤ → Type 0 = λ z. z ≤ℤ cost_of t cs in subst P cost_here (least_here cs c);
  }

  pub is_least : IsTidy es → IsLeastCoupling t left right (map cell_of es) (map (λ p. pos p -ℤ pos 10000000000000) R) (map (λ p. pos p -ℤ pos 10000000000000) K)
  is_least tidy =
      let len = length-map es cell_of in
      record {
        coupling = is_coupling;
        ascending = λ k kl.
            let P : TableCell → Type 0 = λ c. ComesBefore c (slice_index_or (map cell_of es) (k + 1) no_cell) in
            let Q : TableCell → Type 0 = λ c. ComesBefore (cell_of (entry_at es k)) c in
            subst P (sym (cell_map es k)) (subst Q (sym (cell_map es (k + 1))) (tidy.ascending k (omega arith)));
        positive = let P : TableCell → Type 0 = λ c. pos 0 <ℤ c.weight in All-from_get_or P (map cell_of es) no_cell (λ k kl. subst P (sym (cell_map es k)) (above _ (tidy.weights k (omega arith))));
        alpha_length = length-map R _ ∙ left_length;
        beta_length = length-map K _ ∙ right_length;
        below = λ i j il jl. below_of (at (map (λ p. pos p -ℤ pos 10000000000000) R) i) (at (map (λ p. pos p -ℤ pos 10000000000000) K) j) (slice_index R i) (slice_index K j) (t i j) (alpha_at i il) (beta_at j jl) (s.feasible i j (let e = left_length in omega arith) (let e = right_length in omega arith));
        value = cost_here ∙ worth_of _ _ (weight_in es) _ _ (cost_in t es) alpha_worth beta_worth worth_here;
        least = least_here;
        alpha_size = All-from_get_or (λ a. unsigned_abs a ≤ 100000000000000) _ (pos 0) (λ k kl. let e = length-map R (λ p. pos p -ℤ pos 10000000000000) in size_of (at (map (λ p. pos p -ℤ pos 10000000000000) R) k) (slice_index R k) (unlift_at R k (omega arith)) (s.row_bounds k (omega arith)));
        beta_size = All-from_get_or (λ b. unsigned_abs b ≤ 100000000000000) _ (pos 0) (λ k kl. let e = length-map K (λ p. pos p -ℤ pos 10000000000000) in size_of (at (map (λ p. pos p -ℤ pos 10000000000000) K) k) (slice_index K k) (unlift_at K k (omega arith)) (s.column_bounds k (omega arith)));
      }
