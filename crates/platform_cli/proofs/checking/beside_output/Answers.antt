use Rattle.std.proofs.Common.{List, ℕ, ◌∙◌, ap, rules}
use Rattle.std.proofs.lemmas.Int.{to_z-of_z}
use mir.Syntax.{w64}
use mir.Val.{SFits}
use Rattle.std.specs.Prelude.{unsigned_abs}
use Rattle.pair_prices.specs.Plan.{cost}
use Rattle.platform_cli.specs.Report.{checked_text}
use Rattle.platform_cli.proofs.Verdicts.{conflict_told, cost_beside}
use Rattle.platform_cli.proofs.checking.beside_output.Goals as goal

pub returns-in-Conflict : goal.returns-in-Conflict
returns-in-Conflict c =
    conflict_told c.args.case.now c.args.plan.now.choice c.in-Conflict.clash (λ (p : List ℕ). checked_text c.args.bound.now (cost c.args.case.now p)) c.conflict_output.result c.in-Conflict.ensures.value c.in-Conflict.ensures.feasible c.conflict_output.ensures

pub returns-in_ok-text-in-Cost : goal.returns-in_ok-text-in-Cost
returns-in_ok-text-in-Cost c =
    let fits : SFits w64 c.in-Cost.costs.total = search rules in
    cost_beside c.args.case.now c.args.plan.now.choice c.in-Cost.costs c.args.bound.now c.in_ok-text-in-Cost.text.items c.of_text.result c.in-Cost.ensures.value c.in-Cost.ensures.feasible
    (λ total is. c.in_ok-text-in-Cost.ensures ∙ ap (checked_text c.args.bound.now) (c.unsigned_abs.ensures.value ∙ ap unsigned_abs (to_z-of_z w64 c.in-Cost.costs.total fits ∙ is))) c.of_text.ensures
