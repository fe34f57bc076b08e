use Rattle.std.proofs.Common.{◌≡◌, drop, map, string_bytes}
use Rattle.plain_words.specs.Rules.{has_values}
use Rattle.plain_words.proofs.plain.has_values.Given as goal

abbrev pub invariant-loop-place : goal.invariant-loop-place
invariant-loop-place l = has_values (map string_bytes l.words) ≡ has_values (map string_bytes (drop l.place l.words))
