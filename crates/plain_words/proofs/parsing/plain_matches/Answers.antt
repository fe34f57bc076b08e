use Rattle.std.proofs.Common.{◌∙◌, ap, map, string_bytes}
use Rattle.clap.specs.Words.{App, found_of, is_simple, takes, matches_of}
use Rattle.plain_words.specs.View.{form_of}
use Rattle.plain_words.proofs.Table.{form_table}
use Rattle.plain_words.proofs.Read.{form_takes, argument_read, option_read}
use Rattle.plain_words.proofs.parsing.plain_matches.Goals as goal

pub unreachable-requires : goal.unreachable-requires
unreachable-requires c =
    let words = map string_bytes c.args.words.now in
    let memory = c.in-Err.ensures.passes (ap (λ (a : App). takes a words) c.in_ok-clap_command.ensures ∙ form_takes (form_of c.args.row.now) words c.requires.readable c.requires.plain) in
    c.in_default.not-OutOfMemory (c.kind.ensures ∙ memory)

pub returns-in-Ok-clause-arguments : goal.returns-in-Ok-clause-arguments
returns-in-Ok-clause-arguments c =
    let form = form_of c.args.row.now in
    let words = map string_bytes c.args.words.now in
    argument_read form words (found_of c.in-Ok.matches) c.requires.readable c.requires.plain
    ((c.in-Ok.ensures.matches (ap is_simple c.in_ok-clap_command.ensures ∙ (form_table form).simple)).0 ∙ ap (λ (a : App). matches_of a words) c.in_ok-clap_command.ensures)

pub returns-in-Ok-clause-options : goal.returns-in-Ok-clause-options
returns-in-Ok-clause-options c =
    let form = form_of c.args.row.now in
    let words = map string_bytes c.args.words.now in
    option_read form words (found_of c.in-Ok.matches) c.requires.readable c.requires.plain
    ((c.in-Ok.ensures.matches (ap is_simple c.in_ok-clap_command.ensures ∙ (form_table form).simple)).0 ∙ ap (λ (a : App). matches_of a words) c.in_ok-clap_command.ensures)
