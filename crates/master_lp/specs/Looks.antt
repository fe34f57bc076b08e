-- What a look at a point finds.
use Rattle.std.specs.Prelude.{◌≡◌, ℕ, ◌<◌, List, length, All, Option, Some, None, ◌⊎◌, ℤ, pos, ◌≤ℤ◌, ◌<ℤ◌, ◌^◌}
use Rattle.exact_lp.specs.declared.point.Point.{Point}
use Rattle.exact_lp.specs.declared.row.Row.{Row}
use Rattle.exact_lp.specs.Programs.{Holds}
use Rattle.transport.specs.Coupling.{at}
use Rattle.patterns.specs.declared.weights.Weights.{Weights}
use Rattle.patterns.specs.Weights.{FitsLists}
use Rattle.pair_prices.specs.Case.{CaseRecord}
use Rattle.pair_classes.specs.declared.meeting.Meeting.{Meeting}
use Rattle.clique_cuts.specs.Over.{HasUses}
use Rattle.pair_cuts.specs.declared.cut.PairCut.{PairCut}
use Rattle.pair_cuts.specs.Cut.{IsMet, IsPairCut, IsSmall, worth}
use Rattle.pattern_pricing.specs.Layout.{LayoutRecord}
use Rattle.station_rows.specs.Points.{ArePointWeights, IsWeightOf, value_column}
use Rattle.station_rows.specs.Rows.{StandsIn}

-- The weights are the point's, and those of trains' choices and of platforms.
pub record AreRead (c : CaseRecord) (l : LayoutRecord) (point : Point) (w : Weights) : Type 0 where
  pub are : ArePointWeights l point w
  pub fits : FitsLists l.lists w
  pub uses : HasUses c w
  pub scale : w.scale ≤ℤ pos (10 ^ 24)

-- no use is above the scale
abbrev pub UsesFit : LayoutRecord → Weights → Type 0
UsesFit l w = (platform : ℕ) → platform < l.platforms → at w.uses platform ≤ℤ w.scale

-- the platform's use is above the scale
pub record IsOverUsed (l : LayoutRecord) (w : Weights) (platform : ℕ) : Type 0 where
  pub there : platform < l.platforms
  pub above : w.scale <ℤ at w.uses platform

-- The least cost of a coupling of the two trains' weights is at most the point's value of the two.
pub record IsMetAt (c : CaseRecord) (l : LayoutRecord) (point : Point) (w : Weights) (m : Meeting) : Type 0 where
  pub value : ℤ
  pub value_is : IsWeightOf l point (value_column m.first m.second) value
  pub met : IsMet c l.lists w m.first m.second value

-- A cut on two trains that is worth more than the point's value of the two.
pub record IsAbove (c : CaseRecord) (l : LayoutRecord) (point : Point) (w : Weights) (cut : PairCut) : Type 0 where
  pub order : cut.first < cut.second
  pub there : cut.second < length l.lists
  pub holds : IsPairCut c l.lists cut.first cut.second cut
  pub small : IsSmall cut
  pub value : ℤ
  pub value_is : IsWeightOf l point (value_column cut.first cut.second) value
  pub above : value <ℤ worth w cut.first cut.second cut

abbrev pub AreMetAt : CaseRecord → LayoutRecord → Point → Weights → List Meeting → Type 0
AreMetAt c l point w meetings = All (IsMetAt c l point w) meetings

-- The result is one of the two, and there is none only where both aren't there.
pub record IsOneOf {X : Type 0} (a b result : Option X) : Type 0 where
  pub one : (x : X) → result ≡ Some x → (a ≡ Some x) ⊎ (b ≡ Some x)
  pub none : result ≡ None → (a ≡ None) × (b ≡ None)

-- The row stands, and doesn't hold at the point.
pub record IsOff (c : CaseRecord) (l : LayoutRecord) (point : Point) (row : Row) : Type 0 where
  pub stands : StandsIn c l row
  pub fails : Holds row point → ⊥
