-- Weights that are written by the columns' numbers are those of a point.
use Rattle.std.proofs.Common.{◌≡◌, ℕ, suc, ◌+◌, ◌-◌, ◌<◌, ◌≤◌, ◌==◌, if◌then◌else◌, List, [], length, get_or, drop, sym, ap, ◌∙◌, arith, ℤ, pos}
use Rattle.std.specs.List.{between}
use Rattle.std.proofs.Math.Seq.{drop-cons}
use Rattle.std.proofs.lemmas.List.{length-map}
use Rattle.std.proofs.lemmas.List.Edits.{get_or-between, length-between}
use Rattle.std.proofs.lemmas.List.FromFn.{length-range_with_len}
use Rattle.std.proofs.lemmas.Option.{get_or_from_slice_get}
use Rattle.station.specs.Allowed.{numbers}
use Rattle.exact_lp.specs.declared.point.ColumnWeight.{ColumnWeight}
use Rattle.exact_lp.specs.declared.point.Point.{Point}
use Rattle.transport.specs.Coupling.{at}
use Rattle.patterns.specs.declared.weights.Weights.{Weights}
use Rattle.patterns.specs.Weights.{left_of, weights_of}
use Rattle.pattern_pricing.specs.declared.column.Column.TheVariants.{LeftOut, PlatformUse}
use Rattle.pattern_pricing.specs.Layout.{LayoutRecord, weight_column}
use Rattle.pattern_pricing.specs.Positions.{list_size, patterns_in, start_of}
use Rattle.pattern_pricing.proofs.Places.{position_of}
use Rattle.pattern_pricing.proofs.Spots.{mapped_at}
use Rattle.station_rows.specs.Points.{ArePointWeights, weight_at}
use Rattle.station_rows.specs.Written.{AreWeights, train_part, train_parts}
use Rattle.station_rows.proofs.There.{column_there, part_within}

-- one weight more at the front
pub weight_drop : (ws : List ColumnWeight) (i : ℕ) (d : ColumnWeight) (k : ℕ) → i < length ws
    → weight_at (drop i ws) k ≡ (if (get_or ws i d).column == k then (get_or ws i d).weight else weight_at (drop (i + 1) ws) k)
weight_drop ws i d k h =
    let e : suc i ≡ i + 1 = omega arith in
    ap (λ xs. weight_at xs k) (drop-cons ws i d h)
    ∙ ap (λ n. if (get_or ws i d).column == k then (get_or ws i d).weight else weight_at (drop n ws) k) e

module _ (l : LayoutRecord) (point : Point) (all : List ℤ) (w : Weights) where
  abbrev trains : ℕ
  trains = length l.lists

  abbrev lefts : ℕ
  lefts = patterns_in l

  abbrev uses : ℕ
  uses = patterns_in l + trains

  module _ (are : AreWeights point.weights (patterns_in l + trains + l.platforms) all) (scale : w.scale ≡ point.scale) (weight : w.weight ≡ train_parts l all trains)
      (left : w.left ≡ between lefts (lefts + trains) all) (used : w.uses ≡ between uses (uses + l.platforms) all) where
    in_part : (from count i : ℕ) → i < count → from + count ≤ patterns_in l + trains + l.platforms → at (between from (from + count) all) i ≡ weight_at point.weights (from + i)
    in_part from count i h most = get_or-between all from (from + count) i (pos 0) (omega (arith, h)) ∙ are.each (from + i) (omega (arith, h, most))

    part_long : (from count : ℕ) → from + count ≤ patterns_in l + trains + l.platforms → length (between from (from + count) all) ≡ count
    part_long from count most =
        let long = are.long in
        let e = length-between all from (from + count) (omega (arith, long, most)) in
        omega (arith, e)

    part_is : (t : ℕ) → t < trains → weights_of w t ≡ train_part l all t
    part_is t h =
        ap (λ xs. get_or xs t []) weight
        ∙ get_or_from_slice_get (train_parts l all trains) t (train_part l all (0 + t)) [] (mapped_at (train_part l all) 0 trains t h)
        ∙ ap (train_part l all) (plain t)
      where
        plain : (n : ℕ) → 0 + n ≡ n
        plain n = omega arith

    at_number : (z : ℤ) (k number : ℕ) → z ≡ weight_at point.weights k → number ≡ k → z ≡ weight_at point.weights number
    at_number z k number e is = e ∙ ap (weight_at point.weights) (sym is)

    pub point_weights : ArePointWeights l point w
    point_weights = record {
      scale = scale;
      trains =
          let a = length-map (numbers trains) (train_part l all) in
          let b = length-range_with_len 0 trains in
          let e = ap length weight in
          omega (arith, a, b, e);
      left_trains = ap length left ∙ part_long lefts trains (omega arith);
      lengths = λ t h.
          let inside = part_within l t h in
          ap length (part_is t h) ∙ part_long (start_of l t) (list_size l t) (omega (arith, inside));
      platforms = ap length used ∙ part_long uses l.platforms (omega arith);
      weights = λ t i number e.
          let there = column_there l number (weight_column t i) e in
          let inside = part_within l t there.0 in
          at_number (get_or (weights_of w t) i (pos 0)) (start_of l t + i) number
          (ap (λ xs. get_or xs i (pos 0)) (part_is t there.0) ∙ in_part (start_of l t) (list_size l t) i there.1 (omega (arith, inside)))
          (position_of l number (weight_column t i) e);
      lefts = λ t number e.
          at_number (left_of w t) (lefts + t) number
          (ap (λ xs. get_or xs t (pos 0)) left ∙ in_part lefts trains t (column_there l number (LeftOut t) e) (omega arith))
          (position_of l number (LeftOut t) e);
      uses = λ p number e.
          at_number (at w.uses p) (uses + p) number
          (ap (λ xs. get_or xs p (pos 0)) used ∙ in_part uses l.platforms p (column_there l number (PlatformUse p) e) (omega arith))
          (position_of l number (PlatformUse p) e);
    }
