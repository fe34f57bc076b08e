use Rattle.std.proofs.Common.{◌≡◌, ◌++◌, take, string_bytes}
use Rattle.std.specs.List.{flat_map}
use Rattle.plain_words.specs.Usage.{argument_text}
use Rattle.plain_words.proofs.usage.push_arguments.Given as goal

abbrev pub invariant-loop-argument : goal.invariant-loop-argument
invariant-loop-argument l = string_bytes l.text ≡ string_bytes l.initial.text ++ flat_map (λ argument. argument_text argument.now) (take l.argument-index l.arguments)
