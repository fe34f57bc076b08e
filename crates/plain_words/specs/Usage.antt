-- A command as the usage text shows it.
use Rattle.std.specs.Prelude.{◌-◌, ◌++◌, codes, drop, length, take}
use Rattle.std.specs.List.{flat_map}
use Rattle.plain_words.specs.Form.{Text, CommandForm, OptionForm}

abbrev pub argument_text : Text → Text
argument_text name = codes " " ++ name

abbrev pub missing_text : Text → Text
missing_text name = codes " [" ++ name ++ codes "]"

abbrev pub option_text : OptionForm → Text
option_text option = codes " [--" ++ option.name ++ codes " " ++ option.value ++ codes "]"

-- The word, the named arguments, the last of them in brackets where they may be missing, and each option in brackets with its value.
abbrev pub usage_line : CommandForm → Text
usage_line form =
    let needed = length form.arguments - form.missing in
    form.word ++ flat_map argument_text (take needed form.arguments) ++ flat_map missing_text (drop needed form.arguments) ++ flat_map option_text form.options ++ codes "\n"
