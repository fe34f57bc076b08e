use Rattle.std.proofs.Common.{sym, subst, ℤ, ◌≤ℤ◌, ◌^◌, pos}
use Rattle.patterns.specs.Allowed.{Lists}
use Rattle.patterns.specs.Weights.{FitsLists}
use Rattle.master_lp.proofs.ExactBounds.{written_of}
use Rattle.master_lp.proofs.ends.plan_of.Goals as goal

pub fraction_plan-requires-clause-weights : goal.fraction_plan-requires-clause-weights
fraction_plan-requires-clause-weights c =
    let rows = c.requires.rows in
    let w = c.in_ok-weights.weights in
    let plan = c.points_are_plans.ensures c.args.case.now c.args.layout.now c.requires.layout rows.opening rows.trains c.args.point.now rows.meets w
    c.in_ok-weights.ensures in
    let P : Lists → Type 0 = λ x. FitsLists x w in
    subst P c.requires.same plan.fits

pub fraction_plan-requires-clause-scale : goal.fraction_plan-requires-clause-scale
fraction_plan-requires-clause-scale c =
    let P : ℤ → Type 0 = λ z. z ≤ℤ pos (10 ^ 24) in
    subst P (sym c.in_ok-weights.ensures.scale) c.requires.scale

pub returns-clause-within : goal.returns-clause-within
returns-clause-within c =
    let rows = c.requires.rows in
    let w = c.in_ok-weights.weights in
    let plan = c.points_are_plans.ensures c.args.case.now c.args.layout.now c.requires.layout rows.opening rows.trains c.args.point.now rows.meets w
    c.in_ok-weights.ensures in
    c.in_ok-plan.ensures.plan c.args.layout.now c.args.point.now c.requires.layout c.requires.same rows.meets.within c.in_ok-weights.ensures plan

pub returns-clause-written : goal.returns-clause-written
returns-clause-written c =
    let rows = c.requires.rows in
    let w = c.in_ok-weights.weights in
    let plan = c.points_are_plans.ensures c.args.case.now c.args.layout.now c.requires.layout rows.opening rows.trains c.args.point.now rows.meets w
    c.in_ok-weights.ensures in
    written_of c.args.case.now c.args.layout.now c.args.allowed.now.lists c.requires.same c.args.point.now w plan c.in_ok-plan.plan
    c.in_ok-plan.ensures.weights c.in_ok-plan.ensures.tables
