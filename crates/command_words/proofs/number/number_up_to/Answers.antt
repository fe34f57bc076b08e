use Rattle.std.proofs.Common.{◌≡◌, ◌<◌, ◌^◌, true, rules}
use Rattle.command_words.specs.Number.{is_number}
use Rattle.command_words.proofs.Parsed.{too_large}
use Rattle.command_words.proofs.number.number_up_to.Goals as goal

pub returns-in-Err-clause-number : goal.returns-in-Err-clause-number
returns-in-Err-clause-number c =
    let number : is_number c.args.word.now ≡ true = search rules in
    let fits : c.args.most < 2 ^ 64 = search rules in
    too_large c.args.most c.args.word.now c.in-Err.field-0 c.in-Err.ensures.value.0 number fits
