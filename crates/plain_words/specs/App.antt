-- A command as it is declared to `clap`.
use Rattle.std.specs.Prelude.{true, List, [], ◌++◌, Some, map}
use Rattle.clap.specs.Walk.{Rule}
use Rattle.clap.specs.Simple.{App, new_shape, new_rule}
use Rattle.plain_words.specs.Form.{Text, CommandForm, option_names}

abbrev pub option_rule : Text → Rule
option_rule name = record (new_rule name) { long = Some name }

-- a command with these arguments, of which each may stand again
abbrev pub app_with : Text → List Rule → App
app_with word rules = record { top = record (new_shape word) { rules = rules; args_override_self = true }; subs = [] }

-- its arguments are the named ones in order and then the options
abbrev pub app_of_form : CommandForm → App
app_of_form form = app_with form.word (map new_rule form.arguments ++ map option_rule (option_names form))
