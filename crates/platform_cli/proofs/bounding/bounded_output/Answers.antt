use Rattle.station.specs.Shown.{record_of}
use Rattle.pair_prices.specs.Case.{rule_case}
use Rattle.platform_cli.specs.View.{outcome_of}
use Rattle.platform_cli.proofs.SolveSteps.{bounded_found}
use Rattle.platform_cli.proofs.bounding.bounded_output.Goals as goal

pub returns : goal.returns
returns c =
    bounded_found c.in_ok-case.case (rule_case (record_of c.args.station)) c.in_ok-root.root c.in_ok-text.text.items (outcome_of c.of_text.result)
    c.in_ok-case.ensures c.in_ok-root.ensures.root c.in_ok-text.ensures c.of_text.ensures
