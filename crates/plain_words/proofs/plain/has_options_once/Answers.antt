use Rattle.std.proofs.Common.{◌∙◌, sym, inl, inr, string_bytes}
use Rattle.plain_words.proofs.Once.{stands_again, stands_once}
use Rattle.plain_words.proofs.plain.has_options_once.Goals as goal
use Rattle.plain_words.proofs.plain.has_options_once.Goals.{else-is_dashed-via-then-is_dashed+else-stands_in, else-is_dashed-via-else-is_dashed}

pub returns-then-stands_in : goal.returns-then-stands_in
returns-then-stands_in c =
    sym (c.loop-place.invariant
    ∙ stands_again string_bytes c.args.words.now c.loop-place.place c.index-words-place.result c.loop-place-test.true c.index-words-place.is c.if-is_dashed.ensures
    (rw c.as_str.ensures.value at c.if-stands_in.ensures))

pub loop-place-preserved : goal.loop-place-preserved
loop-place-preserved c =
    let step = stands_once string_bytes c.args.words.now c.loop-place.place c.index-words-place.result c.loop-place-test.true c.index-words-place.is in
    elim c.else-is_dashed.branch [
      | else-is_dashed-via-then-is_dashed+else-stands_in w ↦ c.loop-place.invariant ∙ step (inr (rw w.as_str.ensures.value at w.if-stands_in.ensures))
      | else-is_dashed-via-else-is_dashed w ↦ c.loop-place.invariant ∙ step (inl w.if-is_dashed.ensures)
    ]
