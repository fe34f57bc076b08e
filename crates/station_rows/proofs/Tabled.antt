-- A point's weights and a table for each pair make a fractional plan.
use Rattle.std.proofs.Common.{◌≡◌, ℕ, ◌+◌, ◌<◌, ◌≤◌, length, refl, sym, ap, ◌∙◌, subst, arith, ℤ, pos, ◌≤ℤ◌}
use Rattle.std.specs.Prelude.{sum_by, unsigned_abs}
use Rattle.std.specs.List.{All}
use Rattle.std.proofs.lemmas.Int.{ints}
use Rattle.std.proofs.lemmas.List.Elements.{All-get_or, All-weaker}
use Rattle.station.specs.Allowed.{numbers}
use Rattle.exact_lp.specs.declared.point.Point.{Point}
use Rattle.exact_lp.specs.Programs.{IsWithin}
use Rattle.transport.specs.declared.TableCell.{TableCell}
use Rattle.transport.specs.Coupling.{IsCoupling, at, cost_of}
use Rattle.transport.proofs.Signed.{size_is}
use Rattle.patterns.specs.declared.weights.Weights.{Weights}
use Rattle.patterns.specs.Weights.{FitsLists, choice_weights}
use Rattle.pair_prices.specs.Case.{CaseRecord}
use Rattle.pair_prices.specs.Fraction.{Fraction, IsFraction, choices, held_weight, left_out, scaled_cost, table_cost_of}
use Rattle.pair_prices.specs.Trains.{TrainPair, train_pairs}
use Rattle.pair_prices.proofs.Above.{IsTrainPair, all_pairs_there}
use Rattle.leaf_bounds.specs.Total.{total}
use Rattle.leaf_bounds.proofs.Totals.{total_le}
use Rattle.leaf_bounds.proofs.BareLemmas.{total_pos}
use Rattle.clique_cuts.specs.Over.{fraction_of}
use Rattle.pair_cuts.specs.Cut.{pair_costs}
use Rattle.pattern_pricing.specs.declared.column.Column.{Column}
use Rattle.pattern_pricing.specs.Layout.{LayoutRecord, columns_of, pair_column}
use Rattle.pattern_pricing.specs.Prices.{IsLayoutOf, price_of_column}
use Rattle.pattern_pricing.proofs.Places.{position_of, price_here}
use Rattle.station_rows.specs.Points.{ArePointWeights, AreUses, value_column, weight_at}
use Rattle.station_rows.specs.Tables.{AreTables, Tables, fraction_with}
use Rattle.station_rows.specs.Laws.{IsPlanWithin, point_cost, prices}
use Rattle.station_rows.proofs.Spread.{IsSpread, point_spread, point_weight, spread}
use Rattle.station_rows.proofs.Agreed.{Agrees, agreed_cost}
use Rattle.station_rows.proofs.Planned.{choices_long, choices_sum, point_agrees, point_scale}
use Rattle.station_rows.proofs.TableCells.{column_of_cells, cost_of_cells, row_of_cells}
use Rattle.station_rows.proofs.Placed.{table_cost_is}

-- what the point's columns cost, by kinds
pub cost_spread : (c : CaseRecord) (l : LayoutRecord) (x : Column → ℤ) (point : Point) → IsSpread l x point
    → point_cost c l point ≡ spread l (λ col. pos (price_of_column c l col)) x
cost_spread c l x point spreads =
    spreads (prices c l) (λ col. pos (price_of_column c l col)) (λ n col e. ap (λ (k : ℕ). pos k) (price_here l c n col e))

-- two sums that are the same number
same_sizes : (n : ℕ) (s z : ℤ) → pos n ≡ s → s ≡ z → n ≡ unsigned_abs z
same_sizes n s z a b = ap unsigned_abs (a ∙ b)

-- the table of one pair
module _ (c : CaseRecord) (l : LayoutRecord) (w : Weights) (fits : FitsLists l.lists w) (tables : Tables) (p : TrainPair)
    (order : p.first < p.second) (there : p.second < length l.lists) (couple : IsCoupling (choice_weights w p.first) (choice_weights w p.second) (tables p)) where
  abbrev f : Fraction
  f = fraction_with w tables

  abbrev n : ℕ
  n = left_out l.lists p.first

  abbrev m : ℕ
  m = left_out l.lists p.second

  first_there : p.first < length l.lists
  first_there = omega (arith, order, there)

  rows_long : length (choice_weights w p.first) ≡ n + 1
  rows_long = choices_long l w p.first (fits.lengths p.first first_there)

  columns_long : length (choice_weights w p.second) ≡ m + 1
  columns_long = choices_long l w p.second (fits.lengths p.second there)

  in_rows : All (λ k. k.row < n + 1) (tables p)
  in_rows = let P : ℕ → Type 0 = λ k. All (λ (d : TableCell). d.row < k) (tables p) in subst P rows_long couple.in_rows

  in_columns : All (λ k. k.column < m + 1) (tables p)
  in_columns = let P : ℕ → Type 0 = λ k. All (λ (d : TableCell). d.column < k) (tables p) in subst P columns_long couple.in_columns

  pub row_is : (i : ℕ) → i ≤ n → sum_by (f.table p i) (choices l.lists p.second) ≡ f.weight p.first i
  row_is i h =
      let long = rows_long in
      same_sizes (sum_by (f.table p i) (choices l.lists p.second)) (total (λ j. pos (f.table p i j)) (numbers (m + 1))) (at (choice_weights w p.first) i)
      (sym (total_pos (f.table p i) (numbers (m + 1))))
      (row_of_cells (tables p) i (m + 1) in_columns couple.weights ∙ couple.row_sums i (omega (arith, long, h)))

  pub column_is : (j : ℕ) → j ≤ m → sum_by (λ i. f.table p i j) (choices l.lists p.first) ≡ f.weight p.second j
  column_is j h =
      let long = columns_long in
      same_sizes (sum_by (λ i. f.table p i j) (choices l.lists p.first)) (total (λ i. pos (f.table p i j)) (numbers (n + 1))) (at (choice_weights w p.second) j)
      (sym (total_pos (λ i. f.table p i j) (numbers (n + 1))))
      (column_of_cells (tables p) j (n + 1) in_rows couple.weights ∙ couple.column_sums j (omega (arith, long, h)))

  pub cells_cost : pos (table_cost_of c l.lists f p) ≡ cost_of (pair_costs c l.lists p.first p.second) (tables p)
  cells_cost =
      sym (table_cost_is c l.lists f p)
      ∙ cost_of_cells (pair_costs c l.lists p.first p.second) (tables p) (n + 1) (m + 1) in_rows in_columns couple.weights

module _ (c : CaseRecord) (l : LayoutRecord) (is : IsLayoutOf c l) (point : Point) (within : IsWithin (length (columns_of l)) point.weights)
    (w : Weights) (are : ArePointWeights l point w) (fits : FitsLists l.lists w) (uses : AreUses c l w)
    (tables : Tables) (tabled : AreTables c l point w tables) where
  abbrev plan : Fraction
  plan = fraction_with w tables

  abbrev x : Column → ℤ
  x = point_weight l point

  trains_same : length l.lists ≡ length c.book
  trains_same = is.lists.trains

  agrees : Agrees l x plan
  agrees = let a = point_agrees l point w are in record { weights = a.weights; lefts = a.lefts; uses = a.uses }

  pair_cheap : (p : TrainPair) → IsTrainPair (length l.lists) p → pos (table_cost_of c l.lists plan p) ≤ℤ x (pair_column p)
  pair_cheap p pair =
      let same = cells_cost c l w fits tables p pair.order pair.there (tabled.couple p.first p.second pair.order pair.there) in
      let cheap = tabled.cheap p.first p.second pair.order pair.there (x (pair_column p))
      (λ number e. sym (ap (weight_at point.weights) (position_of l number (value_column p.first p.second) e))) in
      omega (arith, ints, same, cheap)

  held_same : (p : ℕ) (minute : ℤ) → held_weight c l.lists plan p minute ≡ held_weight c l.lists (fraction_of w) p minute
  unfolding held_weight
  held_same p minute = refl

  is_fraction : IsFraction c l.lists plan
  is_fraction = record {
    scale =
        let above = point.above in
        let scale = point_scale l point w are in
        omega (arith, ints, above, scale);
    total = λ t h.
        let trains = trains_same in
        let inside : t < length l.lists = omega (arith, trains, h) in
        choices_sum l w t (fits.lengths t inside) ∙ ap unsigned_abs (fits.totals t inside);
    use_most = λ p h.
        let platforms = uses.there.platforms in
        let use_is = size_is (at w.uses p) (All-get_or (λ (z : ℤ). pos 0 ≤ℤ z) w.uses p (pos 0) (omega (arith, platforms, h)) uses.there.positive) in
        let most = uses.most p h in
        let scale = are.scale in
        let same = point_scale l point w are in
        omega (arith, ints, use_is, most, scale, same);
    held = λ p h minute. let same = held_same p minute in let most = uses.held p h minute in omega (arith, same, most);
    rows = λ s t i h k b.
        let trains = trains_same in
        let inside : t < length l.lists = omega (arith, trains, k) in
        row_is c l w fits tables (record { first = s; second = t }) h inside (tabled.couple s t h inside) i b;
    columns = λ s t j h k b.
        let trains = trains_same in
        let inside : t < length l.lists = omega (arith, trains, k) in
        column_is c l w fits tables (record { first = s; second = t }) h inside (tabled.couple s t h inside) j b;
  }

  costs_most : pos (scaled_cost c l.lists plan) ≤ℤ point_cost c l point
  unfolding scaled_cost
  costs_most =
      let all = cost_spread c l x point (point_spread l point within) in
      let kinds = agreed_cost l x plan agrees c is in
      let trains = length l.lists in
      let sums = total_pos (table_cost_of c l.lists plan) (train_pairs trains) in
      let most = total_le (λ p. pos (table_cost_of c l.lists plan p)) (λ p. x (pair_column p)) (train_pairs trains)
      (All-weaker (IsTrainPair trains) (λ p. pos (table_cost_of c l.lists plan p) ≤ℤ x (pair_column p)) (λ p pair. pair_cheap p pair) (train_pairs trains) (all_pairs_there trains)) in
      let book = ap (λ k. sum_by (table_cost_of c l.lists plan) (train_pairs k)) trains_same in
      omega (arith, ints, all, kinds, sums, most, book)

  pub plan_within : IsPlanWithin c l point plan
  plan_within = record { scale = point_scale l point w are; plan = is_fraction; cost = costs_most }
