-- What the bytes of a plan and the verdict on it say.
use Rattle.std.proofs.Common.{◌≡◌, ◌≤◌, inl, inr, refl, Bool, false, pos, List, ℕ, IfOk, IfSome, None, Some, Result, Ok, Err, sym, ◌∙◌, ap, arith, length, take}
use Rattle.std.specs.Prelude.{◌↔◌}
use Rattle.std.specs.declared.alloc.AllocError.{AllocError}
use Rattle.pair_prices.specs.Plan.{IsFeasible, cost}
use Rattle.leaf_bounds.specs.declared.tree.Bound.{Bound}
use Rattle.platform_cli.specs.Report.{checked_text}
use Rattle.reports.specs.Text.{conflict_text}
use Rattle.platform_cli.specs.Given.{text_outcome}
use Rattle.platform_cli.specs.Judge.{IsJudged}
use Rattle.platform_cli.specs.declared.output.Output.{Output}
use Rattle.platform_cli.specs.View.{outcome_of}
use Rattle.std.specs.declared.option.Option.{Option}
use Rattle.std.specs.Prelude.{IsTrue}
use Rattle.pair_prices.specs.Case.{CaseRecord}
use Rattle.plan_cost.specs.declared.verdict.Clash.{Clash}
use Rattle.plan_cost.specs.declared.verdict.Costs.{Costs}
use Rattle.plan_cost.specs.declared.verdict.Verdict.TheVariants.{Cost, Conflict}
use Rattle.plan_cost.specs.PlanReading.{PlanReading, plan_reading}
use Rattle.plan_cost.specs.Verdict.{costs_of, first_clash, is_cost, verdict_by, verdict_of}
use Rattle.platform_cli.specs.Instance.{Held, IsInput, IsPlan}
use Rattle.platform_cli.proofs.Fronts.{plan_front}

front_plan : (known : Option (List ℕ)) (most : ℕ) (c : CaseRecord) (bytes : List ℕ) (is : PlanReading) → length c.book ≤ 200 → 16_363 ≤ most → IfSome known (λ whole. bytes ≡ take most whole) → plan_reading c bytes ≡ is
    → IfSome known (λ whole. plan_reading c whole ≡ is)
front_plan None most c bytes is trains room front read = tt
front_plan (Some whole) most c bytes is trains room front read = sym (plan_front c most whole trains room) ∙ ap (λ (b : List ℕ). plan_reading c b) (sym front) ∙ read

-- what was read of an input is what the plan is read as
pub plan_read : (tells : Bool) (held : Held) (name : List ℕ) (c : CaseRecord) (bytes : List ℕ) (is : PlanReading) → length c.book ≤ 200 → IsInput tells held name 65_536 bytes → plan_reading c bytes ≡ is → IsPlan tells held name c is
plan_read tells held name c bytes is trains input read = record {
  whole = front_plan (held name) 65_536 c bytes is trains (omega arith) input.front read;
  told = input.told;
  bytes = bytes;
  read = read;
}

clash_by : (o : Option Clash) (costs : Costs) (clash : Clash) → Conflict clash ≡ verdict_by o costs → o ≡ Some clash
clash_by None costs clash is = absurd (cc is)
clash_by (Some other) costs clash is = cc is

costs_by : (o : Option Clash) (own costs : Costs) → Cost costs ≡ verdict_by o own → costs ≡ own
costs_by None own costs is = cc is
costs_by (Some clash) own costs is = absurd (cc is)

-- a conflict is the first, and costs are the plan's
pub clash_told : (c : CaseRecord) (plan : List ℕ) (clash : Clash) → Conflict clash ≡ verdict_of c plan → first_clash c plan ≡ Some clash
unfolding verdict_of
clash_told c plan clash is = clash_by (first_clash c plan) (costs_of c plan) clash is

pub costs_told : (c : CaseRecord) (plan : List ℕ) (costs : Costs) → Cost costs ≡ verdict_of c plan → costs ≡ costs_of c plan
unfolding verdict_of
costs_told c plan costs is = costs_by (first_clash c plan) (costs_of c plan) costs is

pub not_true : IsTrue false → ⊥
not_true is = cc

-- the output of a plan that isn't feasible
pub conflict_told : (c : CaseRecord) (plan : List ℕ) (clash : Clash) (report : List ℕ → List ℕ) (result : Result Output AllocError) → Conflict clash ≡ verdict_of c plan → IsTrue (is_cost (Conflict clash)) ↔ IsFeasible c plan
    → IfOk result (λ output. outcome_of output ≡ text_outcome 9 (conflict_text c.station clash)) → IfOk result (λ output. IsJudged report c plan (outcome_of output))
conflict_told c plan clash report (Err e) is feasible made = tt
conflict_told c plan clash report (Ok output) is feasible made = inr (clash, clash_told c plan clash is, λ f. not_true (feasible.1 f), made)

-- the output of a feasible plan beside a bound
pub cost_beside : (c : CaseRecord) (plan : List ℕ) (costs : Costs) (bound : Bound) (text : List ℕ) (output : Output) → Cost costs ≡ verdict_of c plan → IsTrue (is_cost (Cost costs)) ↔ IsFeasible c plan
    → ((total : ℕ) → costs.total ≡ pos total → text ≡ checked_text bound total) → outcome_of output ≡ text_outcome 0 text
    → IsJudged (λ p. checked_text bound (cost c p)) c plan (outcome_of output)
unfolding costs_of
cost_beside c plan costs bound text output is feasible told made =
    inl (feasible.0 refl, made ∙ ap (λ (t : List ℕ). text_outcome 0 t) (told (cost c plan) (ap (λ (k : Costs). k.total) (costs_told c plan costs is))))
