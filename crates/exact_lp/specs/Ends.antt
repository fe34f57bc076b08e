-- What a round of the engine comes to.
use Rattle.std.specs.Prelude.{◌≡◌, ℕ, ◌<◌, ◌^◌, List, length, All, pos, ◌≤ℤ◌}
use Rattle.exact_lp.specs.declared.answer.Limits.{Limits}
use Rattle.exact_lp.specs.declared.row.Row.{Row}
use Rattle.exact_lp.specs.declared.stage.Ready.{Ready}
use Rattle.exact_lp.specs.declared.stage.Settled.{Settled}
use Rattle.exact_lp.specs.declared.stage.Settled.TheVariants.{Shown, Given}
use Rattle.exact_lp.specs.declared.stage.Plan.{Plan}
use Rattle.exact_lp.specs.declared.stage.Plan.TheVariants.{Next, End}
use Rattle.exact_lp.specs.declared.stage.Ahead.{Ahead}
use Rattle.exact_lp.specs.declared.stage.Ahead.TheVariants.{Clear, Entered, Stopped}
use Rattle.exact_lp.specs.Answers.{MayCause}
use Rattle.exact_lp.specs.Programs.{CostSame, Holds, IsWithin, reduced_price}

-- the point and the duals show each other least among these rows
pub record IsReady (price : ℕ → ℕ) (count : ℕ) (rows : List Row) (ready : Ready) : Type 0 where
  pub rows_are : ready.duals.rows ≡ rows
  pub scale : ready.point.scale ≤ℤ pos (10 ^ 24)
  pub duals_scale : ready.duals.scale ≤ℤ pos (10 ^ 24)
  pub within : IsWithin count ready.point.weights
  pub hold : All (λ row. Holds row ready.point) rows
  pub cost : CostSame (λ column. pos (price column)) ready.point ready.duals
  pub not_improving : (column : ℕ) → column < count → pos 0 ≤ℤ reduced_price (pos (price column)) ready.duals column

-- a round's pivoting over these rows ended well, or for a stated cause
abbrev pub SettledIs : (ℕ → ℕ) → ℕ → Limits → List Row → ℕ → ℕ → Settled → Type 0
SettledIs price count limits rows old new (Shown ready) = IsReady price count rows ready
SettledIs price count limits rows old new (Given cause) = MayCause limits (length rows) count old new cause

abbrev pub PlanIs : (ℕ → ℕ) → ℕ → Limits → List Row → ℕ → ℕ → Plan → Type 0
PlanIs price count limits rows old new (Next planned) = planned.rows ≡ rows
PlanIs price count limits rows old new (End settled) = SettledIs price count limits rows old new settled

-- the rows are handed back, or there is a cause
abbrev pub AheadIs : ℕ → Limits → List Row → ℕ → ℕ → Ahead → Type 0
AheadIs count limits rows old new (Clear back) = back ≡ rows
AheadIs count limits rows old new (Entered back) = back ≡ rows
AheadIs count limits rows old new (Stopped cause) = MayCause limits (length rows) count old new cause
