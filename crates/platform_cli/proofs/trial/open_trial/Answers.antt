use Rattle.platform_cli.specs.View.{outcome_of}
use Rattle.platform_cli.proofs.TrialSteps.{open_summed}
use Rattle.platform_cli.proofs.trial.open_trial.Goals as goal

pub returns-clause-outcome : goal.returns-clause-outcome
returns-clause-outcome c =
    open_summed c.args.case.now c.args.trains (outcome_of c.in_ok-output.output) c.args.stopped.now c.bound_of-bound.result c.known_cost.result c.requires.answer c.bound_of_tree.ensures c.station-limits.ensures.limits
    c.requires.root c.requires.undecided c.bound_of-bound.ensures c.in_ok-output.ensures.provable (c.known_cost.ensures c.args.case.now c.requires.answer.known) c.in_ok-output.ensures.told
