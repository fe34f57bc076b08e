use Rattle.std.proofs.Common.{sym, ◌∙◌, length, ◌<◌, get_or, [], ◌≡◌, true, false}
use Rattle.std.specs.Cmp.Rules.{signed_items}
use Rattle.std.proofs.lemmas.List.{get_or_default}
use Rattle.pair_classes.specs.Groups.{line_at}
use Rattle.pair_classes.proofs.GroupLemmas.{differs_next}
use Rattle.pair_classes.proofs.group.find_equal.Goals as goal

pub returns-then-eq-clause-same : goal.returns-then-eq-clause-same
returns-then-eq-clause-same c h =
    let there : get_or c.args.heads.now c.loop-place.place 0 < length c.args.lines.now = c.requires c.loop-place.place 0 h in
    sym (c.as_slice.ensures ∙ c.index-lines-heads.is
    ∙ get_or_default c.args.lines.now (get_or c.args.heads.now c.loop-place.place 0) c.index-lines-heads.result [] there)
    ∙ (signed_items c.as_slice.result.now c.args.line.now).0 (sym c.eq.ensures ∙ c.if-eq.true)

pub loop-place-preserved : goal.loop-place-preserved
loop-place-preserved c =
    let there : get_or c.args.heads.now c.loop-place.place 0 < length c.args.lines.now = c.requires c.loop-place.place 0 c.loop-place-test.true in
    let read : c.as_slice.result.now ≡ line_at c.args.lines.now (get_or c.args.heads.now c.loop-place.place 0) =
    c.as_slice.ensures ∙ c.index-lines-heads.is
    ∙ get_or_default c.args.lines.now (get_or c.args.heads.now c.loop-place.place 0) c.index-lines-heads.result [] there in
    differs_next c.args.lines.now c.args.heads.now c.args.line.now c.loop-place.place c.loop-place.invariant
    (λ e. let equal = (signed_items c.as_slice.result.now c.args.line.now).1 (read ∙ e) in
    let bad : true ≡ false = sym equal ∙ sym c.eq.ensures ∙ c.if-eq.false in
    cc)
