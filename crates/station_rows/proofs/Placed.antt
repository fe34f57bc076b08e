-- What a table of two trains costs, with left out among the choices.
use Rattle.std.proofs.Common.{◌≡◌, ℕ, ◌+◌, ◌*◌, ◌<◌, sym, ap, ◌∙◌, arith, ℤ, pos, ◌*ℤ◌}
use Rattle.std.specs.Prelude.{sum_by}
use Rattle.std.proofs.lemmas.Int.{ints}
use Rattle.station.specs.Allowed.{numbers}
use Rattle.patterns.specs.Allowed.{Lists}
use Rattle.pair_prices.specs.Case.{CaseRecord}
use Rattle.pair_prices.specs.Fraction.{Fraction, left_out, pattern_of, table_cost_of}
use Rattle.pair_prices.specs.Top.{sealed_price}
use Rattle.pair_prices.specs.Trains.{TrainPair}
use Rattle.leaf_bounds.specs.Total.{total}
use Rattle.leaf_bounds.proofs.Totals.{total_none, total_numbers_next, total_numbers_same}
use Rattle.leaf_bounds.proofs.BareLemmas.{total_pos}
use Rattle.pair_cuts.specs.Cut.{pair_costs}
use Rattle.pair_cuts.proofs.Limits.{cost_inside, cost_of_left_column, cost_of_left_row}
use Rattle.station_rows.proofs.Spread.{total_all_same, zero-mul_ℤ}
use Rattle.station_rows.proofs.TableCells.{placed_cost}

module _ (c : CaseRecord) (lists : Lists) (f : Fraction) (p : TrainPair) where
  abbrev costs : ℕ → ℕ → ℕ
  costs = pair_costs c lists p.first p.second

  abbrev place : ℕ → ℕ → ℤ
  place i j = pos (costs i j) *ℤ pos (f.table p i j)

  abbrev price : ℕ → ℕ → ℕ
  price i j = sealed_price c (pattern_of c lists p.first i) (pattern_of c lists p.second j) * f.table p i j

  free : (i j : ℕ) → costs i j ≡ 0 → place i j ≡ pos 0
  free i j e = ap (λ (n : ℕ). pos n *ℤ pos (f.table p i j)) e ∙ zero-mul_ℤ (pos (f.table p i j))

  row : (i : ℕ) → i < left_out lists p.first → total (place i) (numbers (left_out lists p.second + 1)) ≡ pos (sum_by (price i) (numbers (left_out lists p.second)))
  row i h =
      let m = left_out lists p.second in
      let more = total_numbers_next (place i) m in
      let last = free i m (cost_of_left_column c lists p.first p.second i m (omega arith)) in
      let same = total_numbers_same (place i) (λ j. pos (price i j)) m
      (λ j k. ap (λ (n : ℕ). pos n *ℤ pos (f.table p i j)) (sym (cost_inside c lists p.first p.second i j h k))) in
      let sums = total_pos (price i) (numbers m) in
      omega (arith, ints, more, last, same, sums)

  left_row : total (place (left_out lists p.first)) (numbers (left_out lists p.second + 1)) ≡ pos 0
  left_row =
      let n = left_out lists p.first in
      total_all_same (place n) (λ j. pos 0) (numbers (left_out lists p.second + 1))
      (λ j. free n j (cost_of_left_row c lists p.first p.second n j (omega arith)))
      ∙ total_none (numbers (left_out lists p.second + 1))

  pub table_cost_is : placed_cost costs (f.table p) (left_out lists p.first + 1) (left_out lists p.second + 1) ≡ pos (table_cost_of c lists f p)
  table_cost_is =
      let n = left_out lists p.first in
      let m = left_out lists p.second in
      let rows : ℕ → ℤ = λ i. total (place i) (numbers (m + 1)) in
      let more = total_numbers_next rows n in
      let last = left_row in
      let same = total_numbers_same rows (λ i. pos (sum_by (price i) (numbers m))) n (λ i h. row i h) in
      let sums = total_pos (λ i. sum_by (price i) (numbers m)) (numbers n) in
      omega (arith, ints, more, last, same, sums)
