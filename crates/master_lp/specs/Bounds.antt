-- What the bound of a node says.
use Rattle.std.specs.Prelude.{◌≡◌, ℕ, ◌+◌, ◌^◌, ◌<◌, ◌⊎◌, length, ℤ, pos, ◌<ℤ◌, unsigned_abs}
use Rattle.ratio.specs.declared.fraction.Ratio.{Ratio}
use Rattle.ratio.specs.Fraction.{IsSameFraction}
use Rattle.exact_lp.specs.declared.answer.Limits.{Limits}
use Rattle.exact_lp.specs.declared.answer.WeakCause.{WeakCause}
use Rattle.exact_lp.specs.declared.answer.WeakCause.TheVariants.{Left, Pivots, Rounds, Cells, Scale}
use Rattle.exact_lp.specs.Answers.{MayCause}
use Rattle.patterns.specs.Allowed.{Lists}
use Rattle.patterns.specs.Weights.{FitsLists}
use Rattle.pair_prices.specs.Case.{CaseRecord}
use Rattle.pair_prices.specs.Fraction.{IsFraction, IsLeastCost, scaled_cost}
use Rattle.clique_cuts.specs.Over.{HasUses}
use Rattle.leaf_bounds.specs.declared.leaf.Leaf.{Leaf}
use Rattle.leaf_bounds.specs.Leaf.{value_of}
use Rattle.leaf_bounds.specs.Shown.{LeafStands, numbers_of}
use Rattle.pattern_pricing.specs.Layout.{LayoutRecord, columns_of}
use Rattle.dual_ascent.specs.Plain.{IsAtLeastPlain}
use Rattle.master_lp.specs.declared.answer.Relaxed.{Relaxed}
use Rattle.master_lp.specs.declared.answer.Relaxed.TheVariants.{Exact, Weak}
use Rattle.master_lp.specs.declared.answer.ExactBound.{ExactBound}
use Rattle.master_lp.specs.declared.answer.WeakBound.{WeakBound}
use Rattle.station_rows.specs.declared.fraction.FractionPlan.{FractionPlan}
use Rattle.station_rows.specs.Plans.{AreLeastTables, fraction_of_plan}

-- the columns of the lists, for the platforms of the case
abbrev pub layout_of : CaseRecord → Lists → LayoutRecord
layout_of c lists = record { lists = lists; platforms = length c.station.platforms }

-- The fraction is the leaf's value over its scale.
abbrev pub IsWorth : CaseRecord → Leaf → Ratio → Type 0
IsWorth c leaf value = IsSameFraction value.num value.den (value_of c (numbers_of leaf)) leaf.q

-- The leaf stands for the lists, and its value over its scale is the fraction.
pub record IsBound (c : CaseRecord) (lists : Lists) (leaf : Leaf) (value : Ratio) : Type 0 where
  pub stands : LeafStands c lists leaf
  pub worth : IsWorth c leaf value

-- The numbers of the plan are at least 0 and in their places, and there is a table of least cost for each two trains.
pub record IsWritten (c : CaseRecord) (lists : Lists) (plan : FractionPlan) : Type 0 where
  pub weights : FitsLists lists plan.weights
  pub uses : HasUses c plan.weights
  pub tables : AreLeastTables c lists plan.weights plan.tables

-- The fraction is a fractional plan over the lists that costs the value, and none goes below.
pub record IsExact (c : CaseRecord) (lists : Lists) (e : ExactBound) : Type 0 where
  pub bound : IsBound c lists e.leaf e.value
  pub written : IsWritten c lists e.fraction
  pub plan : IsFraction c lists (fraction_of_plan e.fraction)
  pub whole : pos (unsigned_abs e.value.num) ≡ e.value.num
  pub cost : IsSameFraction e.value.num e.value.den (pos (scaled_cost c lists (fraction_of_plan e.fraction))) (pos ((fraction_of_plan e.fraction).scale))
  pub least : IsLeastCost c lists (unsigned_abs e.value.num) (unsigned_abs e.value.den)

-- The leaf's value over its scale is at least the sum of the least prices.
pub record IsWeak (c : CaseRecord) (lists : Lists) (w : WeakBound) : Type 0 where
  pub bound : IsBound c lists w.leaf w.value
  pub plain : IsAtLeastPlain c lists w.leaf

-- more than a leaf may have: a scale above 10^18, or another number above 10^30 in size
abbrev pub IsTooGreat : ℤ → Type 0
IsTooGreat n = (pos (10 ^ 18) <ℤ n) ⊎ (10 ^ 30 < unsigned_abs n)

-- Why a bound may be weak: as the engine may say with a row for each train at first and so many columns, or since a leaf would
-- have this number.
abbrev pub MayWeaken : Limits → ℕ → ℕ → ℕ → ℕ → WeakCause → Type 0
MayWeaken limits trains columns old new Left = MayCause limits (trains + limits.rounds) columns old new Left
MayWeaken limits trains columns old new (Pivots n) = MayCause limits (trains + limits.rounds) columns old new (Pivots n)
MayWeaken limits trains columns old new (Rounds n) = MayCause limits (trains + limits.rounds) columns old new (Rounds n)
MayWeaken limits trains columns old new (Cells n) = MayCause limits (trains + limits.rounds) columns old new (Cells n)
MayWeaken limits trains columns old new (Scale n) = IsTooGreat n

-- a fact for each answer
abbrev pub MatchRelaxed : Relaxed → (ExactBound → Type 0) → (WeakBound → Type 0) → Type 0
MatchRelaxed (Exact e) P Q = P e
MatchRelaxed (Weak w) P Q = Q w

abbrev pub IfWeakBound : Relaxed → (WeakBound → Type 0) → Type 0
IfWeakBound (Exact e) Q = Unit {0}
IfWeakBound (Weak w) Q = Q w

-- how many columns the lists have
abbrev pub column_count : CaseRecord → Lists → ℕ
column_count c lists = length (columns_of (layout_of c lists))
