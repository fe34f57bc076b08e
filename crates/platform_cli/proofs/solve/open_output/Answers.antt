use Rattle.std.proofs.Common.{List, ◌++◌, map, ◌∙◌, ap}
use Rattle.std.specs.Option.{option_map}
use Rattle.platform_cli.specs.Solve.{known_files}
use Rattle.platform_cli.specs.View.{file_of, known_plan, solve_view}
use Rattle.platform_cli.specs.declared.output.OutputFile.{OutputFile}
use Rattle.platform_cli.proofs.SolveSteps.{open_told}
use Rattle.platform_cli.proofs.solve.open_output.Goals as goal

pub returns : goal.returns
returns c =
    open_told c.args.case.now (solve_view c.args.words.now) c.in_ok-text.text.items (map file_of c.push_known.new.files.items) (map file_of c.push_proof.new.files.items)
    c.args.stopped.now c.bound_of-bound.result c.requires.answer c.bound_of_tree.ensures c.station-limits.ensures.limits c.requires.root c.requires.undecided c.bound_of-bound.ensures c.in_ok-text.ensures
    (c.in_ok-push_known.ensures
    ∙ ap (λ (l : List OutputFile). map file_of l ++ known_files (option_map (λ name. name.now) c.args.words.now.plan) (known_plan c.args.stopped.now.plan)) c.new-files.ensures.items)
    (c.in_ok-push_proof.ensures c.requires.answer.proof c.requires.answer.shown.is_tree)
