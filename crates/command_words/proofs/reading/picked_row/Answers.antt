use Rattle.std.proofs.Common.{◌≡◌, ◌∙◌, ap, sym, rules, Some, string_bytes}
use Rattle.std.specs.List.{find, slice_get}
use Rattle.std.specs.Option.{option_map}
use Rattle.std.specs.Str.{bytes_eq}
use Rattle.plain_words.specs.Form.{Text}
use Rattle.command_words.specs.Table.{command_table}
use Rattle.command_words.specs.View.{row_view}
use Rattle.command_words.proofs.Rows.{find_of_mapped, picked_first}
use Rattle.command_words.proofs.reading.picked_row.Goals as goal

pub returns : goal.returns
returns c =
    let found : c.find_row.result ≡ find (λ row. bytes_eq row.row.word.now c.as_str.result.now) c.commands.result.now = c.find_row.ensures in
    let first : slice_get c.args.words.now 0 ≡ Some c.in_ok-word.word.now = search rules in
    ap (option_map row_view) found
    ∙ sym (find_of_mapped (λ row. bytes_eq row.form.word c.as_str.result.now) row_view c.commands.result.now)
    ∙ ap (λ rows. find (λ row. bytes_eq row.form.word c.as_str.result.now) rows) c.commands.ensures
    ∙ ap (λ (word : Text). find (λ row. bytes_eq row.form.word word) command_table) c.as_str.ensures.value
    ∙ sym (picked_first string_bytes c.args.words.now c.in_ok-word.word.now first)
