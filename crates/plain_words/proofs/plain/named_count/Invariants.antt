use Rattle.std.proofs.Common.{◌≡◌, ◌+◌, ◌≤◌, drop, length, map, string_bytes}
use Rattle.plain_words.specs.Rules.{named_words, named_after}
use Rattle.plain_words.proofs.plain.named_count.Given as goal

abbrev pub invariant-loop-word : goal.invariant-loop-word
invariant-loop-word l = record {
  counted : l.count + length (named_after l.is_value (map string_bytes (drop l.word-index l.words))) ≡ length (named_words (map string_bytes l.words));
  few : l.count ≤ l.word-index;
}
