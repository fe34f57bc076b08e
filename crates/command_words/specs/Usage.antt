-- The usage text.
use Rattle.std.specs.Prelude.{◌++◌, codes}
use Rattle.std.specs.List.{flat_map}
use Rattle.plain_words.specs.Form.{Text}
use Rattle.plain_words.specs.Usage.{usage_line}
use Rattle.command_words.specs.Table.{command_table}

-- The line `Usage`, and then the line of each command of the table.
abbrev pub usage_text : Text
usage_text = codes "Usage\n" ++ flat_map (λ row. usage_line row.form) command_table
