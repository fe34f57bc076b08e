use Rattle.platform_cli.specs.View.{outcome_of}
use Rattle.platform_cli.proofs.TrialSteps.{none_summed}
use Rattle.platform_cli.proofs.trial.no_plan_trial.Goals as goal

pub returns-clause-outcome : goal.returns-clause-outcome
returns-clause-outcome c =
    none_summed c.args.case.now c.args.trains (outcome_of c.in_ok-output.output) c.args.shown.now c.requires.none c.requires.root c.requires.unreached
    c.in_ok-output.ensures.provable c.in_ok-output.ensures.told
