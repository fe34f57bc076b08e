use Rattle.std.proofs.Common.{◌≡◌, ◌++◌, take, map}
use Rattle.clap.specs.Words.{app_of, new_rule}
use Rattle.plain_words.specs.App.{app_with, option_rule}
use Rattle.plain_words.proofs.parsing.clap_command.Given as goal

abbrev pub invariant-loop-argument : goal.invariant-loop-argument
invariant-loop-argument l = app_of l.command ≡ app_with l.row.word.now (map (λ argument. new_rule argument.now) (take l.argument-index l.row.arguments.now))

abbrev pub invariant-loop-option : goal.invariant-loop-option
invariant-loop-option l = app_of l.command ≡ app_with l.row.word.now (map (λ argument. new_rule argument.now) l.row.arguments.now ++ map (λ option. option_rule option.name.now) (take l.option-index l.row.options.now))
