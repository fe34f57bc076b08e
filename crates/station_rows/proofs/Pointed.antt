-- Each fractional plan gives a point at which all rows hold.
use Rattle.std.proofs.Common.{◌≡◌, ℕ, zero, suc, ◌+◌, ◌<◌, ◌≤◌, true, false, List, [], ◌∷◌, length, get_or, refl, sym, ap, ◌∙◌, subst, arith, Some, ℤ, pos, neg_ℤ, ◌+ℤ◌, ◌*ℤ◌, ◌≤ℤ◌, ◌<ℤ◌}
use Rattle.std.specs.Prelude.{slice_get, sum_by}
use Rattle.std.specs.List.{All}
use Rattle.std.proofs.lemmas.Int.{ints}
use Rattle.std.proofs.lemmas.List.Elements.{All-cons, All-nil, All-get_or}
use Rattle.station.specs.Allowed.{numbers}
use Rattle.ratio.proofs.Ring.{add-mul_ℤ, mul_comm_ℤ}
use Rattle.exact_lp.specs.declared.row.Row.{Row}
use Rattle.exact_lp.specs.declared.point.ColumnWeight.{ColumnWeight}
use Rattle.exact_lp.specs.declared.point.Point.{Point}
use Rattle.exact_lp.specs.Columns.{AreAscendingWeights, ArePositive, weighed_sum}
use Rattle.exact_lp.specs.Programs.{Holds, IsWithin}
use Rattle.transport.specs.Coupling.{at}
use Rattle.pair_prices.specs.Case.{CaseRecord}
use Rattle.pair_prices.specs.Fraction.{Fraction, IsFraction, left_out, scaled_cost, table_cost_of}
use Rattle.pair_prices.specs.Trains.{TrainPair, train_pairs}
use Rattle.leaf_bounds.specs.Total.{total}
use Rattle.leaf_bounds.proofs.Totals.{mul-none_ℤ, total_add, total_numbers_le, total_numbers_same, total_scaled, total_swap}
use Rattle.leaf_bounds.proofs.BareLemmas.{total_pos}
use Rattle.pair_cuts.specs.Cut.{alphas, betas, pair_costs}
use Rattle.pattern_pricing.specs.declared.column.Column.{Column}
use Rattle.pattern_pricing.specs.declared.column.Column.TheVariants.{Weight, LeftOut, PlatformUse, PairValue}
use Rattle.pattern_pricing.specs.Layout.{LayoutRecord, columns_of}
use Rattle.pattern_pricing.specs.Prices.{IsLayoutOf}
use Rattle.station_rows.specs.Rows.{AreTrainRows, StandsIn, use_stands, clique_stands, pair_stands, train_value, use_value, clique_value, pair_row_value}
use Rattle.station_rows.specs.Laws.{IsPointOf, point_cost}
use Rattle.station_rows.proofs.Spread.{IsSpread, minus-mul_ℤ, one-mul_ℤ, row_spread, zero-mul_ℤ}
use Rattle.station_rows.proofs.Agreed.{Agrees, agreed_clique, agreed_cost, agreed_pair, agreed_train, agreed_use, choice_worth}
use Rattle.station_rows.proofs.MadeRows.{equal_holds, least_holds}
use Rattle.station_rows.proofs.Placed.{table_cost_is}
use Rattle.station_rows.proofs.Tabled.{cost_spread}

-- the weights with a column of this weight before them, where it isn't 0
abbrev before : ℕ → ℕ → List ColumnWeight → List ColumnWeight
before a zero ws = ws
before a (suc n) ws = record { column = a; weight = pos (suc n) } ∷ ws

-- the columns from number a on that have weight
abbrev listed : (Column → ℕ) → ℕ → List Column → List ColumnWeight
listed g a [] = []
listed g a (col ∷ cols) = before a (g col) (listed g (a + 1) cols)

module _ (g : Column → ℕ) where
  sum_before : (h : ℕ → ℤ) (a n : ℕ) (ws : List ColumnWeight) → weighed_sum h (before a n ws) ≡ h a *ℤ pos n +ℤ weighed_sum h ws
  sum_before h a zero ws = let e = mul-none_ℤ (h a) in omega (arith, ints, e)
  sum_before h a (suc n) ws = refl

  listed_sum : (h : ℕ → ℤ) (value : Column → ℤ) (a : ℕ) (cols : List Column) → ((i : ℕ) (col : Column) → slice_get cols i ≡ Some col → h (a + i) ≡ value col)
      → weighed_sum h (listed g a cols) ≡ total (λ col. value col *ℤ pos (g col)) cols
  listed_sum h value a [] e = refl
  listed_sum h value a (col ∷ cols) e =
      let first = sum_before h a (g col) (listed g (a + 1) cols) in
      let here : h a *ℤ pos (g col) ≡ value col *ℤ pos (g col) = ap (λ (z : ℤ). z *ℤ pos (g col)) (ap h (plain a) ∙ e 0 col refl) in
      let rest = listed_sum h value (a + 1) cols (λ i c s. ap h (next a i) ∙ e (suc i) c s) in
      omega (arith, ints, first, here, rest)
    where
      plain : (n : ℕ) → n ≡ n + 0
      plain n = omega arith

      next : (n i : ℕ) → n + 1 + i ≡ n + suc i
      next n i = omega arith

  all_before : (P : ColumnWeight → Type 0) (a n : ℕ) (ws : List ColumnWeight) → ((m : ℕ) → P (record { column = a; weight = pos (suc m) })) → All P ws → All P (before a n ws)
  all_before P a zero ws h rest = rest
  all_before P a (suc n) ws h rest = All-cons P (record { column = a; weight = pos (suc n) }) ws (h n) rest

  listed_all : (P : ColumnWeight → Type 0) (a b : ℕ) (cols : List Column) → a + length cols ≤ b
      → ((k m : ℕ) → a ≤ k → k < b → P (record { column = k; weight = pos (suc m) })) → All P (listed g a cols)
  listed_all P a b [] e h = All-nil P
  listed_all P a b (col ∷ cols) e h =
      all_before P a (g col) (listed g (a + 1) cols) (λ m. h a m (omega arith) (omega (arith, e)))
      (listed_all P (a + 1) b cols (omega (arith, e)) (λ k m i j. h k m (omega (arith, i)) j))

  rises_before : (a n : ℕ) (ws : List ColumnWeight) → AreAscendingWeights ws → All (λ w. a < w.column) ws → AreAscendingWeights (before a n ws)
  rises_before a zero ws up h = up
  rises_before a (suc n) ws up h = by
    where
      by : AreAscendingWeights (record { column = a; weight = pos (suc n) } ∷ ws)
      by zero d l = All-get_or (λ (w : ColumnWeight). a < w.column) ws 0 d (omega arith) h
      by (suc k) d l =
          let first : ColumnWeight = record { column = a; weight = pos (suc n) } in
          let next : suc (k + 1) ≡ suc k + 1 = omega arith in
          let P : ℕ → Type 0 = λ m. (get_or ws k d).column < (get_or (first ∷ ws) m d).column in
          subst P next (up k d (omega arith))

  listed_rises : (a : ℕ) (cols : List Column) → AreAscendingWeights (listed g a cols)
  listed_rises a [] = λ k d l. absurd (omega arith)
  listed_rises a (col ∷ cols) =
      rises_before a (g col) (listed g (a + 1) cols) (listed_rises (a + 1) cols)
      (listed_all (λ w. a < w.column) (a + 1) (a + 1 + length cols) cols (omega arith) (λ k m i j. omega (arith, i)))

  listed_positive : (a : ℕ) (cols : List Column) → ArePositive (listed g a cols)
  listed_positive a cols = listed_all (λ w. pos 0 <ℤ w.weight) a (a + length cols) cols (omega arith) (λ k m i j. omega (arith, ints))

  listed_within : (cols : List Column) → IsWithin (length cols) (listed g 0 cols)
  listed_within cols = listed_all (λ w. w.column < length cols) 0 (length cols) cols (omega arith) (λ k m i j. j)

scaled_most : (a b : ℤ) (n : ℕ) → a ≤ℤ b → (a *ℤ pos n) ≤ℤ (b *ℤ pos n)
scaled_most a b zero h = let e = mul-none_ℤ a in let f = mul-none_ℤ b in omega (arith, ints, e, f)
scaled_most a b (suc n) h =
    let rest = scaled_most a b n h in
    let e = one_more a n in
    let f = one_more b n in
    omega (arith, ints, rest, e, f, h)
  where
    one_more : (z : ℤ) (k : ℕ) → z *ℤ pos (suc k) ≡ z *ℤ pos k +ℤ z
    one_more z k =
        mul_comm_ℤ z (pos (suc k)) ∙ ap (λ (y : ℤ). y *ℤ z) (up k) ∙ add-mul_ℤ (pos k) (pos 1) z
        ∙ ap (λ (y : ℤ). y +ℤ pos 1 *ℤ z) (mul_comm_ℤ (pos k) z) ∙ ap (λ (y : ℤ). z *ℤ pos k +ℤ y) (one-mul_ℤ z)
      where
        up : (k : ℕ) → pos (suc k) ≡ pos k +ℤ pos 1
        up k = omega (arith, ints)

module _ (c : CaseRecord) (l : LayoutRecord) (is : IsLayoutOf c l) (f : Fraction) (fraction : IsFraction c l.lists f) where
  -- the plan's number of a column, and of a pair what its table costs
  abbrev number_of : Column → ℕ
  number_of (Weight w) = f.weight w.train w.place
  number_of (LeftOut t) = f.weight t (left_out l.lists t)
  number_of (PlatformUse p) = f.use p
  number_of (PairValue p) = table_cost_of c l.lists f (record { first = p.first; second = p.second })

  abbrev x : Column → ℤ
  x col = pos (number_of col)

  abbrev point : Point
  point = record {
    scale = pos f.scale;
    weights = listed number_of 0 (columns_of l);
    above = let scale = fraction.scale in omega (arith, ints, scale);
    ascending = listed_rises number_of 0 (columns_of l);
    positive = listed_positive number_of 0 (columns_of l);
  }

  spreads : IsSpread l x point
  spreads h value e = listed_sum number_of h value 0 (columns_of l) (λ i col s. ap h (plain i) ∙ e i col s)
    where
      plain : (n : ℕ) → 0 + n ≡ n
      plain n = omega arith

  agrees : Agrees l x f
  agrees = record { weights = λ t i h k. refl; lefts = λ t h. refl; uses = λ p h. refl }

  trains_same : length l.lists ≡ length c.book
  trains_same = is.lists.trains

  opening_holds : (rows : List Row) → AreTrainRows l rows → All (λ row. Holds row point) rows
  opening_holds rows are k d h =
      let row = get_or rows k d in
      let long = are.trains in
      let inside : k < length l.lists = omega (arith, long, h) in
      let row_is = are.each k d inside in
      let a = row_spread l x point spreads (train_value k) (pos 1) true row row_is in
      let b = agreed_train l x f agrees k inside in
      let trains = trains_same in
      let total_is = fraction.total k (omega (arith, trains, inside)) in
      let one = one-mul_ℤ (pos f.scale) in
      equal_holds row point (pos 1) row_is.equal_is row_is.least_is (omega (arith, ints, a, b, total_is, one))

  -- what numbers at choices are worth, with the table in the place of the weights
  module _ (p : TrainPair) (order : p.first < p.second) (there : p.second < length l.lists) where
    abbrev n : ℕ
    n = left_out l.lists p.first + 1

    abbrev m : ℕ
    m = left_out l.lists p.second + 1

    inside : p.second < length c.book
    inside = let trains = trains_same in omega (arith, trains, there)

    first_worth : (xs : List ℤ) → choice_worth l f xs p.first ≡ total (λ i. total (λ j. at xs i *ℤ pos (f.table p i j)) (numbers m)) (numbers n)
    first_worth xs =
        total_numbers_same (λ i. at xs i *ℤ pos (f.weight p.first i)) (λ i. total (λ j. at xs i *ℤ pos (f.table p i j)) (numbers m)) n
        (λ i h. ap (λ (k : ℕ). at xs i *ℤ pos k) (sym (fraction.rows p.first p.second i order inside (omega (arith, h)))) ∙ sym (total_scaled (at xs i) (f.table p i) (numbers m)))

    second_worth : (xs : List ℤ) → choice_worth l f xs p.second ≡ total (λ i. total (λ j. at xs j *ℤ pos (f.table p i j)) (numbers m)) (numbers n)
    second_worth xs =
        total_numbers_same (λ j. at xs j *ℤ pos (f.weight p.second j)) (λ j. total (λ i. at xs j *ℤ pos (f.table p i j)) (numbers n)) m
        (λ j h. ap (λ (k : ℕ). at xs j *ℤ pos k) (sym (fraction.columns p.first p.second j order inside (omega (arith, h))))
        ∙ sym (total_scaled (at xs j) (λ i. f.table p i j) (numbers n)))
        ∙ total_swap (λ j i. at xs j *ℤ pos (f.table p i j)) (numbers m) (numbers n)

    -- potentials that pass no cost are worth at most what the table costs
    worth_most : (xs ys : List ℤ) → ((i j : ℕ) → i ≤ left_out l.lists p.first → j ≤ left_out l.lists p.second
        → (at xs i +ℤ at ys j) ≤ℤ pos (pair_costs c l.lists p.first p.second i j))
        → (choice_worth l f xs p.first +ℤ choice_worth l f ys p.second) ≤ℤ pos (table_cost_of c l.lists f p)
    worth_most xs ys below =
        let one : ℕ → ℕ → ℤ = λ i j. at xs i *ℤ pos (f.table p i j) in
        let two : ℕ → ℕ → ℤ = λ i j. at ys j *ℤ pos (f.table p i j) in
        let cost : ℕ → ℕ → ℤ = λ i j. pos (pair_costs c l.lists p.first p.second i j) *ℤ pos (f.table p i j) in
        let a = first_worth xs in
        let b = second_worth ys in
        let both = total_add (λ i. total (one i) (numbers m)) (λ i. total (two i) (numbers m)) (numbers n) in
        let most = total_numbers_le (λ i. total (one i) (numbers m) +ℤ total (two i) (numbers m)) (λ i. total (cost i) (numbers m)) n
        (λ i h. let add = total_add (one i) (two i) (numbers m) in
        let row = total_numbers_le (λ j. one i j +ℤ two i j) (cost i) m
        (λ j k. let scaled = scaled_most (at xs i +ℤ at ys j) (pos (pair_costs c l.lists p.first p.second i j)) (f.table p i j) (below i j (omega (arith, h)) (omega (arith, k))) in
        let sum = add-mul_ℤ (at xs i) (at ys j) (pos (f.table p i j)) in
        omega (arith, ints, scaled, sum)) in
        omega (arith, ints, add, row)) in
        let is_cost = table_cost_is c l.lists f p in
        omega (arith, ints, a, b, both, most, is_cost)

  standing_holds : (row : Row) → StandsIn c l row → Holds row point
  standing_holds row (use_stands p h row_is) =
      let a = row_spread l x point spreads (use_value p) (neg_ℤ (pos 1)) false row row_is in
      let b = agreed_use l x f agrees p h in
      let platforms = is.platforms in
      let most = fraction.use_most p (omega (arith, platforms, h)) in
      let minus = minus-mul_ℤ (pos f.scale) in
      least_holds row point (neg_ℤ (pos 1)) row_is.equal_is row_is.least_is (omega (arith, ints, a, b, most, minus))
  standing_holds row (clique_stands p minute h row_is) =
      let a = row_spread l x point spreads (clique_value c l.lists p minute) (pos 0) false row row_is in
      let b = agreed_clique l x f agrees c is p minute h in
      let platforms = is.platforms in
      let most = fraction.held p (omega (arith, platforms, h)) minute in
      let none = zero-mul_ℤ (pos f.scale) in
      least_holds row point (pos 0) row_is.equal_is row_is.least_is (omega (arith, ints, a, b, most, none))
  standing_holds row (pair_stands cut h k cut_is row_is) =
      let a = row_spread l x point spreads (pair_row_value cut) (pos 0) false row row_is in
      let b = agreed_pair l x f agrees cut h k cut_is.alpha cut_is.beta in
      let most = worth_most (record { first = cut.first; second = cut.second }) h k (alphas cut) (betas cut) cut_is.holds in
      let none = zero-mul_ℤ (pos f.scale) in
      least_holds row point (pos 0) row_is.equal_is row_is.least_is (omega (arith, ints, a, b, most, none))

  cost_is : point_cost c l point ≡ pos (scaled_cost c l.lists f)
  unfolding scaled_cost
  cost_is =
      let all = cost_spread c l x point spreads in
      let kinds = agreed_cost l x f agrees c is in
      let trains = length l.lists in
      let sums = total_pos (table_cost_of c l.lists f) (train_pairs trains) in
      let book = ap (λ k. sum_by (table_cost_of c l.lists f) (train_pairs k)) trains_same in
      omega (arith, ints, all, kinds, sums, book)

  pub point_of : (point : Point) × IsPointOf c l f point
  point_of = (
    point,
    record {
      scale = refl;
      cost = cost_is;
      meets = λ rows are. record {
        within = listed_within number_of (columns_of l);
        opening = opening_holds rows are;
        standing = standing_holds;
      };
    },
  )
