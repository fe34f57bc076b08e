-- Commands of the code as contracts see them.
use Rattle.std.specs.Prelude.{map}
use Rattle.plain_words.specs.declared.command_row.CommandRow.{CommandRow}
use Rattle.plain_words.specs.declared.command_row.OptionRow.{OptionRow}
use Rattle.plain_words.specs.Form.{CommandForm, OptionForm}

abbrev pub option_form : OptionRow → OptionForm
option_form option = record { name = option.name.now; value = option.value.now }

abbrev pub form_of : CommandRow → CommandForm
form_of row = record {
  word = row.word.now;
  arguments = map (λ argument. argument.now) row.arguments.now;
  missing = row.missing;
  options = map option_form row.options.now;
}
