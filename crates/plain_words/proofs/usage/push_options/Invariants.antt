use Rattle.std.proofs.Common.{◌≡◌, ◌++◌, take, string_bytes}
use Rattle.std.specs.List.{flat_map}
use Rattle.plain_words.specs.Usage.{option_text}
use Rattle.plain_words.specs.View.{option_form}
use Rattle.plain_words.proofs.usage.push_options.Given as goal

abbrev pub invariant-loop-option : goal.invariant-loop-option
invariant-loop-option l = string_bytes l.text ≡ string_bytes l.initial.text ++ flat_map (λ option. option_text (option_form option)) (take l.option-index l.options)
