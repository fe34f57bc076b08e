-- Cuts on pairs of trains, pair by pair.
use Rattle.std.proofs.Common.{◌≡◌, ℕ, ◌+◌, ◌<◌, List, length, get_or, take, refl, sym, subst, arith, Option, None, Some, MatchOption, ℤ, ◌<ℤ◌, ◌⊎◌, inl, inr}
use Rattle.std.specs.List.{All}
use Rattle.std.proofs.lemmas.List.Elements.{All-more}
use Rattle.exact_lp.specs.declared.point.Point.{Point}
use Rattle.patterns.specs.declared.weights.Weights.{Weights}
use Rattle.patterns.specs.Allowed.{Lists}
use Rattle.pair_prices.specs.Case.{CaseRecord}
use Rattle.pair_classes.specs.declared.meeting.Meeting.{Meeting}
use Rattle.pair_cuts.specs.declared.cut.PairCut.{PairCut}
use Rattle.pair_cuts.specs.Cut.{IsMet, IsPairCut, IsSmall, worth}
use Rattle.pattern_pricing.specs.Layout.{LayoutRecord}
use Rattle.station_rows.specs.Points.{IsWeightOf, value_column}
use Rattle.master_lp.specs.declared.pairs.Excess.{Excess}
use Rattle.master_lp.specs.Looks.{IsAbove, IsMetAt, IsOneOf}

-- with one pair more
pub worse_step : (Met : Meeting → Type 0) (Is : Excess → Type 0) (xs : List Meeting) (i : ℕ) (m : Meeting) → i < length xs → m ≡ get_or xs i m
    → (worst found result : Option Excess) → IsOneOf worst found result → MatchOption worst (All Met (take i xs)) Is → MatchOption found (Met m) Is
    → MatchOption result (All Met (take (i + 1) xs)) Is
worse_step Met Is xs i m h at worst found None one before here =
    let both = one.none refl in
    let P : Option Excess → Type 0 = λ o. MatchOption o (All Met (take i xs)) Is in
    let Q : Option Excess → Type 0 = λ o. MatchOption o (Met m) Is in
    let R : Meeting → Type 0 = λ x. Met x in
    All-more Met xs i m h (subst P both.0 before) (subst R at (subst Q both.1 here))
worse_step Met Is xs i m h at worst found (Some x) one before here = by (one.one x refl)
  where
    by : (worst ≡ Some x) ⊎ (found ≡ Some x) → Is x
    by (inl e) = let P : Option Excess → Type 0 = λ o. MatchOption o (All Met (take i xs)) Is in subst P e before
    by (inr e) = let Q : Option Excess → Type 0 = λ o. MatchOption o (Met m) Is in subst Q e here

module _ (c : CaseRecord) (l : LayoutRecord) (lists : Lists) (same : l.lists ≡ lists) (point : Point) (w : Weights) (m : Meeting)
    (order : m.first < m.second) (there : m.second < length l.lists) (value : ℤ) (value_is : IsWeightOf l point (value_column m.first m.second) value) where
  pub met_at : IsMet c lists w m.first m.second value → IsMetAt c l point w m
  met_at met = record {
    value = value;
    value_is = value_is;
    met = let P : Lists → Type 0 = λ x. IsMet c x w m.first m.second value in subst P (sym same) met;
  }

  pub above_is : (cut : PairCut) → IsPairCut c lists m.first m.second cut → IsSmall cut → value <ℤ worth w m.first m.second cut → IsAbove c l point w cut
  above_is cut is small above =
      let a = is.is_first in
      let b = is.is_second in
      let P : Lists → Type 0 = λ x. IsPairCut c x m.first m.second cut in
      let Q : ℕ → Type 0 = λ s. IsPairCut c l.lists s m.second cut in
      let R : ℕ → Type 0 = λ t. IsPairCut c l.lists cut.first t cut in
      let S : ℕ → Type 0 = λ s. IsWeightOf l point (value_column s m.second) value in
      let T : ℕ → Type 0 = λ t. IsWeightOf l point (value_column cut.first t) value in
      let U : ℕ → Type 0 = λ s. value <ℤ worth w s m.second cut in
      let V : ℕ → Type 0 = λ t. value <ℤ worth w cut.first t cut in
      record {
        order = omega (arith, a, b, order);
        there = omega (arith, b, there);
        holds = subst R (sym b) (subst Q (sym a) (subst P (sym same) is));
        small = small;
        value = value;
        value_is = subst T (sym b) (subst S (sym a) value_is);
        above = subst V (sym b) (subst U (sym a) above);
      }
