use Rattle.std.proofs.Common.{◌∙◌, ◌++◌, ap, sym, string_bytes, take_all}
use Rattle.std.specs.List.{flat_map}
use Rattle.plain_words.specs.Form.{Text}
use Rattle.plain_words.specs.Usage.{option_text}
use Rattle.plain_words.specs.View.{option_form}
use Rattle.plain_words.specs.declared.command_row.OptionRow.{OptionRow}
use Rattle.plain_words.proofs.Lists.{flat_map_of_mapped}
use Rattle.plain_words.proofs.usage.push_options.Goals as goal

pub returns : goal.returns
returns c =
    let all = take_all c.loop-option.option-index c.args.options.now c.loop-option-test.false in
    c.loop-option.invariant
    ∙ ap (λ (written : Text). string_bytes c.args.text.now ++ written) (ap (λ options. flat_map (λ (option : OptionRow). option_text (option_form option)) options) all ∙ sym (flat_map_of_mapped option_text option_form c.args.options.now))
