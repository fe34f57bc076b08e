use Rattle.platform_cli.specs.Report.{report_text}
use Rattle.platform_cli.proofs.Verdicts.{conflict_told, costs_told}
use Rattle.platform_cli.proofs.judging.judged_output.Goals as goal

pub feasible_text-requires-clause-own : goal.feasible_text-requires-clause-own
feasible_text-requires-clause-own c = costs_told c.args.case.now c.args.plan.now.choice c.in-Cost.costs c.in-Cost.ensures.value

pub returns-in-Conflict : goal.returns-in-Conflict
returns-in-Conflict c =
    conflict_told c.args.case.now c.args.plan.now.choice c.in-Conflict.clash (report_text c.args.report.now c.args.case.now) c.conflict_output.result c.in-Conflict.ensures.value c.in-Conflict.ensures.feasible c.conflict_output.ensures
