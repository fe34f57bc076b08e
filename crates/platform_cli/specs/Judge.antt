-- What a plan's text gives where a report is asked for that a feasible plan alone has.
use Rattle.std.specs.Prelude.{◌≡◌, ◌⊎◌, ℕ, Bool, List, Some}
use Rattle.pair_prices.specs.Case.{CaseRecord}
use Rattle.pair_prices.specs.Plan.{IsFeasible}
use Rattle.plan_cost.specs.declared.verdict.Clash.{Clash}
use Rattle.plan_cost.specs.PlanReading.{PlanReading, taken, refused}
use Rattle.plan_cost.specs.Verdict.{first_clash}
use Rattle.reports.specs.Text.{conflict_text, plan_refused_text}
use Rattle.platform_cli.specs.Given.{Outcome, text_outcome}
use Rattle.platform_cli.specs.Instance.{Held, IsPlan}

-- A feasible plan is reported, and of another the first conflict.
abbrev pub IsJudged : (List ℕ → List ℕ) → CaseRecord → List ℕ → Outcome → Type 0
IsJudged report c plan outcome =
    (IsFeasible c plan × (outcome ≡ text_outcome 0 (report plan)))
    ⊎ ((clash : Clash) × (first_clash c plan ≡ Some clash) × (IsFeasible c plan → ⊥) × (outcome ≡ text_outcome 9 (conflict_text c.station clash)))

-- A plan that is taken is judged, and of another text the first refusal is given.
abbrev pub IsJudgedReading : (List ℕ → List ℕ) → CaseRecord → PlanReading → Outcome → Type 0
IsJudgedReading report c (taken plan) outcome = IsJudged report c plan outcome
IsJudgedReading report c (refused refusal) outcome = outcome ≡ text_outcome 4 (plan_refused_text refusal)

abbrev pub IsJudgedFile : Bool → Held → List ℕ → (List ℕ → List ℕ) → CaseRecord → Outcome → Type 0
IsJudgedFile tells held name report c outcome =
    (read : PlanReading) × IsPlan tells held name c read × IsJudgedReading report c read outcome
