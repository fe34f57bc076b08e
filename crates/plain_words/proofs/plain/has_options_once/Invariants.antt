use Rattle.std.proofs.Common.{◌≡◌, drop, map, string_bytes}
use Rattle.plain_words.specs.Rules.{has_options_once}
use Rattle.plain_words.proofs.plain.has_options_once.Given as goal

abbrev pub invariant-loop-place : goal.invariant-loop-place
invariant-loop-place l = has_options_once (map string_bytes l.words) ≡ has_options_once (map string_bytes (drop l.place l.words))
