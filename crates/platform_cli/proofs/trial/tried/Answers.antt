use Rattle.platform_cli.specs.Trial.{trial_splits}
use Rattle.platform_cli.proofs.SolveSteps.{none_root, none_unreached, open_root, open_undecided, optimal_below, optimal_root}
use Rattle.platform_cli.proofs.TrialSteps.{trial_none, trial_open, trial_optimal}
use Rattle.platform_cli.proofs.trial.tried.Goals as goal

pub optimal_trial-requires-clause-root : goal.optimal_trial-requires-clause-root
optimal_trial-requires-clause-root c =
    optimal_root c.args.case.now c.in_ok-found.found trial_splits c.in_ok-found.ensures.answer c.in_ok-found.ensures.root c.in_ok-found.ensures.above
    c.in_ok-found.ensures.none c.in_ok-found.ensures.reached _ c.in-Optimal.is

pub optimal_trial-requires-clause-below_top : goal.optimal_trial-requires-clause-below_top
optimal_trial-requires-clause-below_top c =
    optimal_below c.args.case.now c.in_ok-found.found trial_splits c.in_ok-found.ensures.answer c.in_ok-found.ensures.root c.in_ok-found.ensures.above
    c.in_ok-found.ensures.none c.in_ok-found.ensures.reached _ c.in-Optimal.is

pub returns-in-Optimal-clause-outcome : goal.returns-in-Optimal-clause-outcome
returns-in-Optimal-clause-outcome c = trial_optimal c.args.case.now c.args.trains c.optimal_trial.result c.optimal_trial.ensures.outcome

pub no_plan_trial-requires-clause-root : goal.no_plan_trial-requires-clause-root
no_plan_trial-requires-clause-root c =
    none_root c.args.case.now c.in_ok-found.found trial_splits c.in_ok-found.ensures.answer c.in_ok-found.ensures.root c.in_ok-found.ensures.above
    c.in_ok-found.ensures.none c.in_ok-found.ensures.reached _ c.in-NoPlan.is

pub no_plan_trial-requires-clause-unreached : goal.no_plan_trial-requires-clause-unreached
no_plan_trial-requires-clause-unreached c =
    none_unreached c.args.case.now c.in_ok-found.found trial_splits c.in_ok-found.ensures.answer c.in_ok-found.ensures.root c.in_ok-found.ensures.above
    c.in_ok-found.ensures.none c.in_ok-found.ensures.reached _ c.in-NoPlan.is

pub returns-in-NoPlan-clause-outcome : goal.returns-in-NoPlan-clause-outcome
returns-in-NoPlan-clause-outcome c = trial_none c.args.case.now c.args.trains c.no_plan_trial.result c.no_plan_trial.ensures.outcome

pub open_trial-requires-clause-root : goal.open_trial-requires-clause-root
open_trial-requires-clause-root c =
    open_root c.args.case.now c.in_ok-found.found trial_splits c.in_ok-found.ensures.answer c.in_ok-found.ensures.root c.in_ok-found.ensures.above
    c.in_ok-found.ensures.none c.in_ok-found.ensures.reached _ c.in-Open.is

pub open_trial-requires-clause-undecided : goal.open_trial-requires-clause-undecided
open_trial-requires-clause-undecided c =
    open_undecided c.args.case.now c.in_ok-found.found trial_splits c.in_ok-found.ensures.answer c.in_ok-found.ensures.root c.in_ok-found.ensures.above
    c.in_ok-found.ensures.none c.in_ok-found.ensures.reached _ c.in-Open.is

pub returns-clause-outcome : goal.returns-clause-outcome
returns-clause-outcome c = trial_open c.args.case.now c.args.trains c.open_trial.result c.open_trial.ensures.outcome
