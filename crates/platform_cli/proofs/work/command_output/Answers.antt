use Rattle.std.proofs.Common.{Some, IfOk, sym, ◌∙◌, ap, subst}
use Rattle.command_words.specs.declared.command.Command.{Command}
use Rattle.command_words.specs.View.{generated_view, view_of}
use Rattle.platform_cli.specs.declared.asked.Report.TheVariants.{Platforms, Paths}
use Rattle.platform_cli.specs.declared.asked.Window.{Window}
use Rattle.platform_cli.specs.Asked.{AskedView, requested}
use Rattle.platform_cli.specs.Outcome.{IsOutcome, made}
use Rattle.platform_cli.specs.View.{chart_asked, outcome_of}
use Rattle.platform_cli.proofs.TrialSteps.{trial_told}
use Rattle.platform_cli.proofs.work.command_output.Goals as goal

pub returns-in-Cost-clause-cause : goal.returns-in-Cost-clause-cause
returns-in-Cost-clause-cause g c =
    c.report_on_plan.ensures.cause (Some (view_of c.args.command.now)) (ap (λ (command : Command). requested (Some (view_of command))) c.in-Cost.is)

pub returns-in-Platforms-clause-cause : goal.returns-in-Platforms-clause-cause
returns-in-Platforms-clause-cause g c =
    c.report_on_plan-in-Platforms.ensures.cause (Some (view_of c.args.command.now))
    (ap (λ (command : Command). requested (Some (view_of command))) c.in-Platforms.is
    ∙ ap (λ (w : Window). Some (chart_asked c.in-Platforms.chart (Platforms w))) (sym c.window_of.ensures)
    ∙ ap (λ (asked : AskedView). Some asked) (sym c.chart_asked.ensures))

pub returns-in-Paths-clause-cause : goal.returns-in-Paths-clause-cause
returns-in-Paths-clause-cause g c =
    c.report_on_plan-in-Paths.ensures.cause (Some (view_of c.args.command.now))
    (ap (λ (command : Command). requested (Some (view_of command))) c.in-Paths.is
    ∙ ap (λ (w : Window). Some (chart_asked c.in-Paths.chart (Paths w))) (sym c.window_of-in-Paths.ensures)
    ∙ ap (λ (asked : AskedView). Some asked) (sym c.chart_asked-in-Paths.ensures))

pub returns-in_ok-made_output-in-Make-clause-outcome : goal.returns-in_ok-made_output-in-Make-clause-outcome
returns-in_ok-made_output-in-Make-clause-outcome g c = (
  made,
  record {
    words = generated_view c.in-Make.words;
    asked = ap (λ (command : Command). Some (view_of command)) c.in-Make.is;
    is = c.in_ok-made_output-in-Make.ensures;
  },
)

pub returns-in-Trial-clause-outcome : goal.returns-in-Trial-clause-outcome
returns-in-Trial-clause-outcome g c =
    subst (λ (command : Command). IfOk c.trial_output.result (λ output. IsOutcome g.S.Shelf.tells (g.S.Shelf.held c.args.shelf.now) (Some (view_of command)) (outcome_of output))) (sym c.in-Trial.is)
    (trial_told g.S.Shelf.tells (g.S.Shelf.held c.args.shelf.now) (generated_view c.in-Trial.words) c.trial_output.result c.trial_output.ensures.outcome)
