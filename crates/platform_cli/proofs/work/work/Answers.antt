use Rattle.std.proofs.Common.{sym, ◌∙◌, ap}
use Rattle.std.specs.Option.{option_map}
use Rattle.command_words.specs.View.{view_of}
use Rattle.platform_cli.specs.Outcome.{usage}
use Rattle.platform_cli.proofs.work.work.Goals as goal

pub returns-in_ok-usage_output-in-None-clause-outcome : goal.returns-in_ok-usage_output-in-None-clause-outcome
returns-in_ok-usage_output-in-None-clause-outcome g c = (
  usage,
  record {
    asked = sym c.in_ok-command.ensures ∙ ap (λ command. option_map view_of command) c.in-None.is;
    is = c.in_ok-usage_output-in-None.ensures;
  },
)
