use Rattle.std.proofs.Common.{◌≡◌, ◌∙◌, true, drop, map, sym, rules, string_bytes}
use Rattle.clap.specs.Words.{first_value, found_of}
use Rattle.plain_words.specs.View.{form_of}
use Rattle.command_words.specs.View.{row_view}
use Rattle.command_words.proofs.Rows.{picked_is, plain_behind, row_read}
use Rattle.command_words.proofs.reading.read_row.Goals as goal

pub returns : goal.returns
returns c =
    let words = map string_bytes c.args.words.now in
    let row = row_view c.args.row.now in
    let was : c.are_plain.result ≡ true = search rules in
    let plain = plain_behind string_bytes (form_of c.args.row.now.row) c.args.words.now (sym was ∙ c.are_plain.ensures) in
    c.values_command.ensures
    ∙ row_read row (drop 1 words) (first_value (found_of c.in_ok-matches.matches)) (picked_is words row c.requires.picked) plain c.in_ok-matches.ensures.arguments c.in_ok-matches.ensures.options
