use Rattle.std.proofs.Common.{◌≡◌, ◌++◌, codes, take, string_bytes}
use Rattle.std.specs.List.{flat_map}
use Rattle.plain_words.specs.Usage.{usage_line}
use Rattle.plain_words.specs.View.{form_of}
use Rattle.command_words.proofs.usage_text.usage.Given as goal

abbrev pub invariant-loop-row : goal.invariant-loop-row
invariant-loop-row l = string_bytes l.text ≡ codes "Usage\n" ++ flat_map (λ row. usage_line (form_of row.row)) (take l.row-index l.row-items)
