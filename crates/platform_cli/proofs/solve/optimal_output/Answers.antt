use Rattle.std.proofs.Common.{List, ◌++◌, map, ◌∙◌, ap}
use Rattle.std.specs.Option.{option_map}
use Rattle.platform_cli.specs.Solve.{plan_files}
use Rattle.platform_cli.specs.View.{file_of, solve_view}
use Rattle.platform_cli.specs.declared.output.OutputFile.{OutputFile}
use Rattle.platform_cli.proofs.SolveSteps.{optimal_told}
use Rattle.platform_cli.proofs.solve.optimal_output.Goals as goal

pub returns : goal.returns
returns c =
    optimal_told c.args.case.now (solve_view c.args.words.now) c.in_ok-text.text.items (map file_of c.push_plan.new.files.items) (map file_of c.push_proof.new.files.items)
    c.args.best.now c.bound_of_cost-bound.result c.requires.optimal c.requires.least c.requires.root c.requires.below_top c.bound_of_cost-bound.ensures c.in_ok-text.ensures
    (c.in_ok-push_plan.ensures
    ∙ ap (λ (l : List OutputFile). map file_of l ++ plan_files (option_map (λ name. name.now) c.args.words.now.plan) c.args.best.now.plan.choice) c.new-files.ensures.items)
    (c.in_ok-push_proof.ensures c.requires.optimal.proof c.requires.optimal.shown.is_tree)
