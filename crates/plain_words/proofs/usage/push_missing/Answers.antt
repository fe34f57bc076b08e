use Rattle.std.proofs.Common.{◌∙◌, ◌++◌, ap, sym, string_bytes, take_all}
use Rattle.std.specs.Borrow.{Bor}
use Rattle.std.specs.List.{flat_map}
use Rattle.plain_words.specs.Form.{Text}
use Rattle.plain_words.specs.Usage.{missing_text}
use Rattle.plain_words.proofs.Lists.{flat_map_of_mapped}
use Rattle.plain_words.proofs.usage.push_missing.Goals as goal

pub returns : goal.returns
returns c =
    let all = take_all c.loop-argument.argument-index c.args.arguments.now c.loop-argument-test.false in
    c.loop-argument.invariant
    ∙ ap (λ (written : Text). string_bytes c.args.text.now ++ written) (ap (λ names. flat_map (λ (argument : Bor Text). missing_text argument.now) names) all ∙ sym (flat_map_of_mapped missing_text (λ (argument : Bor Text). argument.now) c.args.arguments.now))
