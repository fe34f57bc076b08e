-- A point at which the rows hold has the weights of a fractional plan.
use Rattle.std.proofs.Common.{◌≡◌, ℕ, zero, suc, ◌+◌, ◌<◌, ◌≤◌, true, false, List, [], ◌∷◌, length, get_or, refl, sym, ap, ◌∙◌, subst, arith, ℤ, pos, neg_ℤ, ◌*ℤ◌, ◌≤ℤ◌}
use Rattle.std.specs.Prelude.{sum_by, unsigned_abs}
use Rattle.std.specs.List.{All}
use Rattle.std.proofs.lemmas.Int.{ints}
use Rattle.std.proofs.lemmas.List.{get_or_append_left, get_or_push, length-append}
use Rattle.std.proofs.lemmas.List.Elements.{All-from_get_or, All-get_or, All-push}
use Rattle.std.proofs.lemmas.Option.{get_or_from_slice_get}
use Rattle.station.specs.Allowed.{numbers}
use Rattle.exact_lp.specs.declared.row.Row.{Row}
use Rattle.exact_lp.specs.declared.point.Point.{Point}
use Rattle.exact_lp.specs.Programs.{Holds}
use Rattle.transport.specs.Coupling.{at, products, weighted}
use Rattle.transport.proofs.Signed.{size_is}
use Rattle.patterns.specs.declared.weights.Weights.{Weights}
use Rattle.patterns.specs.Allowed.{list_of}
use Rattle.patterns.specs.Weights.{choice_weights, left_of, weights_of}
use Rattle.pair_prices.specs.Case.{CaseRecord}
use Rattle.pair_prices.specs.Fraction.{choices, left_out}
use Rattle.pair_prices.proofs.Above.{sum_places}
use Rattle.leaf_bounds.specs.Total.{total}
use Rattle.leaf_bounds.proofs.Totals.{total_numbers_more, total_numbers_same}
use Rattle.clique_cuts.specs.Over.{NoneOver, fraction_of}
use Rattle.pair_cuts.specs.Cut.{alphas, betas}
use Rattle.pattern_pricing.specs.declared.column.Column.{Column}
use Rattle.pattern_pricing.specs.declared.column.Column.TheVariants.{LeftOut, PlatformUse}
use Rattle.pattern_pricing.specs.Layout.{LayoutRecord, weight_column}
use Rattle.pattern_pricing.specs.Positions.{position}
use Rattle.pattern_pricing.specs.Prices.{IsLayoutOf}
use Rattle.pattern_pricing.proofs.Places.{at_position}
use Rattle.station_rows.specs.Rows.{AreTrainRows, use_stands, clique_stands, pair_stands, train_value, use_value, clique_value, pair_row_value}
use Rattle.station_rows.specs.Points.{ArePointWeights, IsPlanPoint, MeetsRows, NoCutAbove, value_column}
use Rattle.station_rows.proofs.Weighed.{weight_least}
use Rattle.station_rows.proofs.Spread.{IsSpread, one-mul_ℤ, minus-mul_ℤ, point_spread, point_weight, row_spread, zero-mul_ℤ}
use Rattle.station_rows.proofs.Agreed.{Agrees, agreed_clique, agreed_pair, agreed_train, agreed_use, choice_worth}
use Rattle.station_rows.proofs.MadeRows.{holds_equal, holds_least, made_row}

sized : (z y : ℤ) → pos 0 ≤ℤ z → y ≡ z → z ≡ pos (unsigned_abs y)
sized z y h e = sym (size_is z h) ∙ ap (λ (v : ℤ). pos (unsigned_abs v)) (sym e)

products_total : (xs ws : List ℤ) (n : ℕ) → products xs ws n ≡ total (λ k. at xs k *ℤ at ws k) (numbers n)
products_total xs ws zero = refl
products_total xs ws (suc n) =
    let rest = products_total xs ws n in
    let more = total_numbers_more (λ k. at xs k *ℤ at ws k) n in
    omega (arith, ints, rest, more)

-- weights of a train's choices
module _ (l : LayoutRecord) (w : Weights) (t : ℕ) (long : length (weights_of w t) ≡ left_out l.lists t) where
  pub choices_long : length (choice_weights w t) ≡ left_out l.lists t + 1
  choices_long = let more = length-append (weights_of w t) (left_of w t ∷ []) in omega (arith, long, more)

  pub choices_sum : sum_by ((fraction_of w).weight t) (choices l.lists t) ≡ sum_by unsigned_abs (choice_weights w t)
  choices_sum =
      ap (λ k. sum_by ((fraction_of w).weight t) (numbers k)) (sym choices_long)
      ∙ sum_places ((fraction_of w).weight t) unsigned_abs (choice_weights w t)
      (λ i y e. ap unsigned_abs (get_or_from_slice_get (choice_weights w t) i y (pos 0) e))

  pub choices_worth : All (λ x. pos 0 ≤ℤ x) (choice_weights w t) → (xs : List ℤ) → weighted xs (choice_weights w t) ≡ choice_worth l (fraction_of w) xs t
  choices_worth least xs =
      products_total xs (choice_weights w t) (length (choice_weights w t))
      ∙ total_numbers_same (λ k. at xs k *ℤ at (choice_weights w t) k) (λ k. at xs k *ℤ pos ((fraction_of w).weight t k)) (length (choice_weights w t))
      (λ k h. ap (λ (z : ℤ). at xs k *ℤ z)
      (sym (size_is (at (choice_weights w t) k) (All-get_or (λ (x : ℤ). pos 0 ≤ℤ x) (choice_weights w t) k (pos 0) h least))))
      ∙ ap (λ n. total (λ k. at xs k *ℤ pos ((fraction_of w).weight t k)) (numbers n)) choices_long

module _ (l : LayoutRecord) (point : Point) (w : Weights) (are : ArePointWeights l point w) where
  abbrev x : Column → ℤ
  x = point_weight l point

  x_least : (col : Column) → pos 0 ≤ℤ x col
  x_least col = weight_least point.weights (position l col) point.positive

  weight_is : (t i : ℕ) → t < length l.lists → i < length (list_of l.lists t) → at (weights_of w t) i ≡ x (weight_column t i)
  weight_is t i h k = are.weights t i (position l (weight_column t i)) (at_position l (weight_column t i) (h, k))

  left_is : (t : ℕ) → t < length l.lists → left_of w t ≡ x (LeftOut t)
  left_is t h = are.lefts t (position l (LeftOut t)) (at_position l (LeftOut t) h)

  use_is : (p : ℕ) → p < l.platforms → at w.uses p ≡ x (PlatformUse p)
  use_is p h = are.uses p (position l (PlatformUse p)) (at_position l (PlatformUse p) h)

  pub point_agrees : Agrees l (point_weight l point) (fraction_of w)
  point_agrees = record {
    weights = λ t i h k.
        let long = are.lengths t h in
        sized (x (weight_column t i)) (at (choice_weights w t) i) (x_least (weight_column t i))
        (get_or_append_left (weights_of w t) (left_of w t ∷ []) (pos 0) i (omega (arith, long, k)) ∙ weight_is t i h k);
    lefts = λ t h.
        sized (x (LeftOut t)) (at (choice_weights w t) (left_out l.lists t)) (x_least (LeftOut t))
        (get_or_push (weights_of w t) (left_of w t) (pos 0) (left_out l.lists t) (are.lengths t h) ∙ left_is t h);
    uses = λ p h. sized (x (PlatformUse p)) (at w.uses p) (x_least (PlatformUse p)) (use_is p h);
  }

  pub point_scale : pos ((fraction_of w).scale) ≡ point.scale
  point_scale =
      let e = are.scale in
      let above = point.above in
      size_is w.scale (omega (arith, ints, e, above)) ∙ e

  choices_least : (t : ℕ) → t < length l.lists → All (λ z. pos 0 ≤ℤ z) (choice_weights w t)
  choices_least t h =
      let P : ℤ → Type 0 = λ z. pos 0 ≤ℤ z in
      All-push P (weights_of w t) (left_of w t)
      (All-from_get_or P (weights_of w t) (pos 0)
      (λ i k. let long = are.lengths t h in subst P (sym (weight_is t i h (omega (arith, long, k)))) (x_least (weight_column t i))))
      (subst P (sym (left_is t h)) (x_least (LeftOut t)))

  uses_least : All (λ z. pos 0 ≤ℤ z) w.uses
  uses_least =
      let P : ℤ → Type 0 = λ z. pos 0 ≤ℤ z in
      All-from_get_or P w.uses (pos 0)
      (λ i k. let long = are.platforms in subst P (sym (use_is i (omega (arith, long, k)))) (x_least (PlatformUse i)))

  module _ (c : CaseRecord) (is : IsLayoutOf c l) (rows : List Row) (train_rows : AreTrainRows l rows) (meets : MeetsRows c l rows point) where
    spreads : IsSpread l x point
    spreads = point_spread l point meets.within

    total_is : (t : ℕ) → t < length l.lists → pos (sum_by ((fraction_of w).weight t) (choices l.lists t)) ≡ w.scale
    total_is t h =
        let d = (made_row l (train_value t) (pos 1) true).0 in
        let row = get_or rows t d in
        let row_is = train_rows.each t d h in
        let trains = train_rows.trains in
        let hold = All-get_or (λ (r : Row). Holds r point) rows t d (omega (arith, trains, h)) meets.opening in
        let a = holds_equal row point (pos 1) row_is.equal_is row_is.least_is hold in
        let b = row_spread l x point spreads (train_value t) (pos 1) true row row_is in
        let e = agreed_train l x (fraction_of w) point_agrees t h in
        let scale = are.scale in
        let one = one-mul_ℤ point.scale in
        omega (arith, ints, a, b, e, scale, one)

    use_most : (p : ℕ) → p < l.platforms → at w.uses p ≤ℤ w.scale
    use_most p h =
        let made = made_row l (use_value p) (neg_ℤ (pos 1)) false in
        let row = made.0 in
        let row_is = made.1 in
        let a = holds_least row point (neg_ℤ (pos 1)) row_is.equal_is row_is.least_is (meets.standing row (use_stands p h row_is)) in
        let b = row_spread l x point spreads (use_value p) (neg_ℤ (pos 1)) false row row_is in
        let e = agreed_use l x (fraction_of w) point_agrees p h in
        let f = point_agrees.uses p h in
        let g = use_is p h in
        let scale = are.scale in
        let minus = minus-mul_ℤ point.scale in
        omega (arith, ints, a, b, e, f, g, scale, minus)

    held_most : NoneOver c l.lists (fraction_of w)
    held_most p inside m =
        let platforms = is.platforms in
        let h : p < l.platforms = omega (arith, platforms, inside) in
        let made = made_row l (clique_value c l.lists p m) (pos 0) false in
        let row = made.0 in
        let row_is = made.1 in
        let a = holds_least row point (pos 0) row_is.equal_is row_is.least_is (meets.standing row (clique_stands p m h row_is)) in
        let b = row_spread l x point spreads (clique_value c l.lists p m) (pos 0) false row row_is in
        let e = agreed_clique l x (fraction_of w) point_agrees c is p m h in
        let none = zero-mul_ℤ point.scale in
        omega (arith, ints, a, b, e, none)

    none_above : NoCutAbove c l point w
    none_above cut h n cut_is value value_is =
        let col = value_column cut.first cut.second in
        let same = value_is (position l col) (at_position l col (h, n)) in
        let below : cut.first < length l.lists = omega (arith, h, n) in
        let made = made_row l (pair_row_value cut) (pos 0) false in
        let row = made.0 in
        let row_is = made.1 in
        let a = holds_least row point (pos 0) row_is.equal_is row_is.least_is (meets.standing row (pair_stands cut h n cut_is row_is)) in
        let b = row_spread l x point spreads (pair_row_value cut) (pos 0) false row row_is in
        let e = agreed_pair l x (fraction_of w) point_agrees cut h n cut_is.alpha cut_is.beta in
        let f = choices_worth l w cut.first (are.lengths cut.first below) (choices_least cut.first below) (alphas cut) in
        let g = choices_worth l w cut.second (are.lengths cut.second n) (choices_least cut.second n) (betas cut) in
        let none = zero-mul_ℤ point.scale in
        omega (arith, ints, same, a, b, e, f, g, none)

    pub plan_point : IsPlanPoint c l point w
    plan_point = record {
      fits = record {
        trains = are.trains;
        left = are.left_trains;
        lengths = are.lengths;
        positive = choices_least;
        totals = λ t h. ap (λ (n : ℕ). pos n) (sym (choices_sum l w t (are.lengths t h))) ∙ total_is t h;
      };
      uses = record {
        there = record { platforms = are.platforms ∙ is.platforms; positive = uses_least };
        most = λ p h. use_most p (let platforms = is.platforms in omega (arith, platforms, h));
        held = held_most;
      };
      pairs = none_above;
    }
