use Rattle.std.proofs.Common.{List, map, ap}
use Rattle.platform_cli.specs.View.{file_of, solve_view}
use Rattle.platform_cli.specs.declared.output.OutputFile.{OutputFile}
use Rattle.platform_cli.proofs.SolveSteps.{none_told}
use Rattle.platform_cli.proofs.solve.no_plan_output.Goals as goal

pub returns : goal.returns
returns c =
    none_told c.args.case.now (solve_view c.args.words.now) c.in_ok-text.text.items (map file_of c.new-files.result.items) (map file_of c.push_proof.new.files.items)
    c.args.shown.now c.requires.shown c.requires.none c.requires.root c.requires.unreached c.in_ok-text.ensures
    (ap (λ (l : List OutputFile). map file_of l) c.new-files.ensures.items)
    (c.in_ok-push_proof.ensures c.requires.shown.proof c.requires.shown.shown.is_tree)
