use Rattle.std.proofs.Common.{◌≤◌, length, sym, ◌∙◌, ap, arith}
use Rattle.plan_cost.specs.PlanReading.{plan_reading}
use Rattle.platform_cli.specs.View.{plan_reading_of}
use Rattle.platform_cli.proofs.Verdicts.{plan_read}
use Rattle.platform_cli.proofs.plan_file.read_given_plan.Goals as goal

pub returns-in_ok-plan_in-in-Ok-clause-read : goal.returns-in_ok-plan_in-in-Ok-clause-read
returns-in_ok-plan_in-in-Ok-clause-read g c =
    let few : length c.args.case.now.book ≤ 200 = omega (arith, c.trains-trains.ensures.limits.trains, ap length c.book.ensures) in
    plan_read g.S.Shelf.tells (g.S.Shelf.held c.args.shelf.now) c.args.name.now c.args.case.now c.in-Ok.bytes.items (plan_reading_of c.in_ok-plan_in-in-Ok.field-0) few c.in-Ok.ensures.input
    (ap (plan_reading c.args.case.now) (sym c.deref.ensures.value) ∙ c.in_ok-plan_in-in-Ok.ensures.read)
