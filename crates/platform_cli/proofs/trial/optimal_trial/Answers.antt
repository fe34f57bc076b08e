use Rattle.platform_cli.specs.View.{outcome_of}
use Rattle.platform_cli.proofs.TrialSteps.{optimal_summed}
use Rattle.platform_cli.proofs.trial.optimal_trial.Goals as goal

pub returns-clause-outcome : goal.returns-clause-outcome
returns-clause-outcome c =
    optimal_summed c.args.case.now c.args.trains (outcome_of c.in_ok-output.output) c.args.best.now c.bound_of_cost-bound.result c.least_cost.result c.requires.optimal c.requires.least c.requires.root c.requires.below_top
    c.bound_of_cost-bound.ensures c.in_ok-output.ensures.provable c.least_cost.ensures c.in_ok-output.ensures.told
