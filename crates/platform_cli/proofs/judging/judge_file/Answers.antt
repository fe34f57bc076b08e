use Rattle.std.proofs.Common.{ap}
use Rattle.station.specs.Shown.{record_of}
use Rattle.pair_prices.specs.Case.{rule_case}
use Rattle.platform_cli.specs.Report.{report_text}
use Rattle.platform_cli.specs.View.{outcome_of, plan_reading_of}
use Rattle.platform_cli.proofs.Answering.{file_judged}
use Rattle.platform_cli.proofs.judging.judge_file.Goals as goal

pub returns-in-Taken-clause-outcome : goal.returns-in-Taken-clause-outcome
returns-in-Taken-clause-outcome g c =
    file_judged g.S.Shelf.tells (g.S.Shelf.held c.args.shelf.now) c.args.asked.now.plan.now (report_text c.args.asked.now.report) (rule_case (record_of c.args.station)) c.in_ok-case.case (plan_reading_of c.in_ok-plan.field-0) c.in-Taken.plan.choice
    (outcome_of c.in_ok-judged_output-in-Taken.field-0) c.in_ok-case.ensures c.in_ok-plan.ensures.read (ap plan_reading_of c.in-Taken.is) c.in_ok-judged_output-in-Taken.ensures
