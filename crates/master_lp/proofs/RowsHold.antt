-- Where each kind of row holds at a point.
use Rattle.std.proofs.Common.{◌≡◌, ℕ, ◌<◌, ◌≤◌, ◌↔◌, true, false, [], length, get_or, sym, ap, ◌∙◌, subst, arith, ℤ, pos, neg_ℤ, ◌≤ℤ◌, ◌^◌}
use Rattle.std.specs.Prelude.{sum_by}
use Rattle.std.specs.List.{All}
use Rattle.std.proofs.lemmas.Int.{ints}
use Rattle.std.proofs.lemmas.List.Elements.{All-from_get_or, All-get_or, All-push}
use Rattle.exact_lp.specs.declared.row.Row.{Row}
use Rattle.exact_lp.specs.declared.point.Point.{Point}
use Rattle.exact_lp.specs.Programs.{Holds}
use Rattle.transport.specs.Coupling.{at}
use Rattle.patterns.specs.declared.weights.Weights.{Weights}
use Rattle.patterns.specs.Allowed.{list_of}
use Rattle.patterns.specs.Weights.{FitsLists, choice_weights, left_of, weights_of}
use Rattle.pair_prices.specs.Case.{CaseRecord}
use Rattle.pair_prices.specs.Fraction.{choices}
use Rattle.clique_cuts.specs.Over.{HasUses, IsWithinUse, fraction_of}
use Rattle.pair_cuts.specs.declared.cut.PairCut.{PairCut}
use Rattle.pair_cuts.specs.Cut.{IsPairCut, alphas, betas, worth}
use Rattle.pattern_pricing.specs.declared.column.Column.{Column}
use Rattle.pattern_pricing.specs.declared.column.Column.TheVariants.{LeftOut, PlatformUse}
use Rattle.pattern_pricing.specs.Layout.{LayoutRecord, weight_column}
use Rattle.pattern_pricing.specs.Positions.{position}
use Rattle.pattern_pricing.specs.Prices.{IsLayoutOf}
use Rattle.pattern_pricing.proofs.Places.{at_position}
use Rattle.station_rows.specs.Rows.{IsUseRow, IsCliqueRow, IsPairRow, train_value, use_value, clique_value, pair_row_value}
use Rattle.station_rows.specs.Points.{ArePointWeights, IsWeightOf, value_column}
use Rattle.station_rows.proofs.Weighed.{weight_least}
use Rattle.station_rows.proofs.Spread.{minus-mul_ℤ, one-mul_ℤ, point_weight, zero-mul_ℤ}
use Rattle.station_rows.proofs.Agreed.{agreed_clique, agreed_pair, agreed_train, agreed_use}
use Rattle.station_rows.proofs.MadeRows.{holds_equal, holds_least, least_holds}
use Rattle.station_rows.proofs.Planned.{choices_sum, choices_worth, point_agrees}
use Rattle.master_lp.specs.Looks.{AreRead}
use Rattle.master_lp.specs.Source.{MeetsOpening}
use Rattle.master_lp.proofs.OpenSums.{open_spread}

module _ (l : LayoutRecord) (point : Point) (w : Weights) (are : ArePointWeights l point w) where
  abbrev x : Column → ℤ
  x = point_weight l point

  x_least : (col : Column) → pos 0 ≤ℤ x col
  x_least col = weight_least point.weights (position l col) point.positive

  weight_is : (t i : ℕ) → t < length l.lists → i < length (list_of l.lists t) → at (weights_of w t) i ≡ x (weight_column t i)
  weight_is t i h k = are.weights t i (position l (weight_column t i)) (at_position l (weight_column t i) (h, k))

  left_is : (t : ℕ) → t < length l.lists → left_of w t ≡ x (LeftOut t)
  left_is t h = are.lefts t (position l (LeftOut t)) (at_position l (LeftOut t) h)

  use_is : (p : ℕ) → p < l.platforms → at w.uses p ≡ x (PlatformUse p)
  use_is p h = are.uses p (position l (PlatformUse p)) (at_position l (PlatformUse p) h)

  choices_least : (t : ℕ) → t < length l.lists → All (λ z. pos 0 ≤ℤ z) (choice_weights w t)
  choices_least t h =
      let P : ℤ → Type 0 = λ z. pos 0 ≤ℤ z in
      All-push P (weights_of w t) (left_of w t)
      (All-from_get_or P (weights_of w t) (pos 0)
      (λ i k. let long = are.lengths t h in subst P (sym (weight_is t i h (omega (arith, long, k)))) (x_least (weight_column t i))))
      (subst P (sym (left_is t h)) (x_least (LeftOut t)))

  uses_least : All (λ z. pos 0 ≤ℤ z) w.uses
  uses_least =
      let P : ℤ → Type 0 = λ z. pos 0 ≤ℤ z in
      All-from_get_or P w.uses (pos 0)
      (λ i k. let long = are.platforms in subst P (sym (use_is i (omega (arith, long, k)))) (x_least (PlatformUse i)))

  -- where the opening rows hold, the weights are those of trains' choices
  pub read_fits : MeetsOpening l point → FitsLists l.lists w
  read_fits (rows, train_rows, hold) = record {
    trains = are.trains;
    left = are.left_trains;
    lengths = are.lengths;
    positive = choices_least;
    totals = λ t h. ap (λ (n : ℕ). pos n) (sym (choices_sum l w t (are.lengths t h))) ∙ total_is t h;
  }
    where
      total_is : (t : ℕ) → t < length l.lists → pos (sum_by ((fraction_of w).weight t) (choices l.lists t)) ≡ w.scale
      total_is t h =
          let d : Row = record { least = pos 1; equal = true; cells = []; ascending = λ k d l. absurd (omega (arith, l)) } in
          let row = get_or rows t d in
          let row_is = train_rows.each t d h in
          let trains = train_rows.trains in
          let holds = All-get_or (λ (r : Row). Holds r point) rows t d (omega (arith, trains, h)) hold in
          let a = holds_equal row point (pos 1) row_is.equal_is row_is.least_is holds in
          let b = open_spread l point (train_value t) (pos 1) true row row_is in
          let e = agreed_train l x (fraction_of w) (point_agrees l point w are) t h in
          let scale = are.scale in
          let one = one-mul_ℤ point.scale in
          omega (arith, ints, a, b, e, scale, one)

  pub read_uses : (c : CaseRecord) → IsLayoutOf c l → HasUses c w
  read_uses c is = record { platforms = are.platforms ∙ is.platforms; positive = uses_least }

  pub use_holds : (p : ℕ) → p < l.platforms → (row : Row) → IsUseRow l p row → Holds row point ↔ (at w.uses p ≤ℤ w.scale)
  use_holds p h row row_is =
      let b = open_spread l point (use_value p) (neg_ℤ (pos 1)) false row row_is in
      let e = agreed_use l x (fraction_of w) (point_agrees l point w are) p h in
      let f = (point_agrees l point w are).uses p h in
      let g = use_is p h in
      let scale = are.scale in
      let minus = minus-mul_ℤ point.scale in (
        (λ holds. let a = holds_least row point (neg_ℤ (pos 1)) row_is.equal_is row_is.least_is holds in omega (arith, ints, a, b, e, f, g, scale, minus)),
        (λ most. least_holds row point (neg_ℤ (pos 1)) row_is.equal_is row_is.least_is (omega (arith, ints, most, b, e, f, g, scale, minus))),
      )

  pub clique_holds : (c : CaseRecord) → IsLayoutOf c l → (p : ℕ) (m : ℤ) → p < l.platforms → (row : Row) → IsCliqueRow c l p m row
      → Holds row point ↔ IsWithinUse c l.lists (fraction_of w) p m
  clique_holds c is p m h row row_is =
      let b = open_spread l point (clique_value c l.lists p m) (pos 0) false row row_is in
      let e = agreed_clique l x (fraction_of w) (point_agrees l point w are) c is p m h in
      let none = zero-mul_ℤ point.scale in (
        (λ holds. let a = holds_least row point (pos 0) row_is.equal_is row_is.least_is holds in omega (arith, ints, a, b, e, none)),
        (λ within. least_holds row point (pos 0) row_is.equal_is row_is.least_is (omega (arith, ints, within, b, e, none))),
      )

  pub pair_holds : (c : CaseRecord) (cut : PairCut) → cut.first < cut.second → cut.second < length l.lists
      → IsPairCut c l.lists cut.first cut.second cut → (value : ℤ) → IsWeightOf l point (value_column cut.first cut.second) value
      → (row : Row) → IsPairRow l cut row → Holds row point ↔ (worth w cut.first cut.second cut ≤ℤ value)
  pair_holds c cut h n cut_is value value_is row row_is =
      let col = value_column cut.first cut.second in
      let same = value_is (position l col) (at_position l col (h, n)) in
      let below : cut.first < length l.lists = omega (arith, h, n) in
      let b = open_spread l point (pair_row_value cut) (pos 0) false row row_is in
      let e = agreed_pair l x (fraction_of w) (point_agrees l point w are) cut h n cut_is.alpha cut_is.beta in
      let f = choices_worth l w cut.first (are.lengths cut.first below) (choices_least cut.first below) (alphas cut) in
      let g = choices_worth l w cut.second (are.lengths cut.second n) (choices_least cut.second n) (betas cut) in
      let none = zero-mul_ℤ point.scale in (
        (λ holds. let a = holds_least row point (pos 0) row_is.equal_is row_is.least_is holds in omega (arith, ints, same, a, b, e, f, g, none)),
        (λ most. least_holds row point (pos 0) row_is.equal_is row_is.least_is (omega (arith, ints, same, most, b, e, f, g, none))),
      )

-- what is read of a point at which the opening rows hold
pub are_read : (c : CaseRecord) (l : LayoutRecord) → IsLayoutOf c l → (point : Point) → MeetsOpening l point → point.scale ≤ℤ pos (10 ^ 24)
    → (w : Weights) → ArePointWeights l point w → AreRead c l point w
are_read c l is point meets scale w are = record {
  are = are;
  fits = read_fits l point w are meets;
  uses = read_uses l point w are c is;
  scale = let P : ℤ → Type 0 = λ z. z ≤ℤ pos (10 ^ 24) in subst P (sym are.scale) scale;
}
