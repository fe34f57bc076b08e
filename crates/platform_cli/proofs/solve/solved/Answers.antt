use Rattle.station.specs.Shown.{record_of}
use Rattle.pair_prices.specs.Case.{rule_case}
use Rattle.platform_cli.specs.View.{solve_view}
use Rattle.platform_cli.proofs.SolveSteps.{none_root, none_unreached, open_root, open_undecided, optimal_below, optimal_root, solved_none, solved_open, solved_optimal}
use Rattle.platform_cli.proofs.solve.solved.Goals as goal

pub optimal_output-requires-clause-root : goal.optimal_output-requires-clause-root
optimal_output-requires-clause-root c =
    optimal_root c.in_ok-case.case c.in_ok-found.found c.args.words.now.splits c.in_ok-found.ensures.answer c.in_ok-found.ensures.root c.in_ok-found.ensures.above
    c.in_ok-found.ensures.none c.in_ok-found.ensures.reached _ c.in-Optimal.is

pub optimal_output-requires-clause-below_top : goal.optimal_output-requires-clause-below_top
optimal_output-requires-clause-below_top c =
    optimal_below c.in_ok-case.case c.in_ok-found.found c.args.words.now.splits c.in_ok-found.ensures.answer c.in_ok-found.ensures.root c.in_ok-found.ensures.above
    c.in_ok-found.ensures.none c.in_ok-found.ensures.reached _ c.in-Optimal.is

pub returns-in-Optimal : goal.returns-in-Optimal
returns-in-Optimal c =
    solved_optimal c.in_ok-case.case (rule_case (record_of c.args.station)) (solve_view c.args.words.now) c.in_ok-case.ensures c.optimal_output.result c.optimal_output.ensures

pub no_plan_output-requires-clause-root : goal.no_plan_output-requires-clause-root
no_plan_output-requires-clause-root c =
    none_root c.in_ok-case.case c.in_ok-found.found c.args.words.now.splits c.in_ok-found.ensures.answer c.in_ok-found.ensures.root c.in_ok-found.ensures.above
    c.in_ok-found.ensures.none c.in_ok-found.ensures.reached _ c.in-NoPlan.is

pub no_plan_output-requires-clause-unreached : goal.no_plan_output-requires-clause-unreached
no_plan_output-requires-clause-unreached c =
    none_unreached c.in_ok-case.case c.in_ok-found.found c.args.words.now.splits c.in_ok-found.ensures.answer c.in_ok-found.ensures.root c.in_ok-found.ensures.above
    c.in_ok-found.ensures.none c.in_ok-found.ensures.reached _ c.in-NoPlan.is

pub returns-in-NoPlan : goal.returns-in-NoPlan
returns-in-NoPlan c =
    solved_none c.in_ok-case.case (rule_case (record_of c.args.station)) (solve_view c.args.words.now) c.in_ok-case.ensures c.no_plan_output.result c.no_plan_output.ensures

pub open_output-requires-clause-root : goal.open_output-requires-clause-root
open_output-requires-clause-root c =
    open_root c.in_ok-case.case c.in_ok-found.found c.args.words.now.splits c.in_ok-found.ensures.answer c.in_ok-found.ensures.root c.in_ok-found.ensures.above
    c.in_ok-found.ensures.none c.in_ok-found.ensures.reached _ c.in-Open.is

pub open_output-requires-clause-undecided : goal.open_output-requires-clause-undecided
open_output-requires-clause-undecided c =
    open_undecided c.in_ok-case.case c.in_ok-found.found c.args.words.now.splits c.in_ok-found.ensures.answer c.in_ok-found.ensures.root c.in_ok-found.ensures.above
    c.in_ok-found.ensures.none c.in_ok-found.ensures.reached _ c.in-Open.is

pub returns : goal.returns
returns c =
    solved_open c.in_ok-case.case (rule_case (record_of c.args.station)) (solve_view c.args.words.now) c.in_ok-case.ensures c.open_output.result c.open_output.ensures
