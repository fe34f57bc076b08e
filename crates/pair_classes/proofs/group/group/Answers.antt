use Rattle.std.proofs.Common.{sym, subst, ◌+◌, ℕ, List}
use Rattle.pair_classes.proofs.GroupLemmas.{GroupsTo, group_more}
use Rattle.pair_classes.proofs.group.group.Goals as goal

pub loop-number-preserved : goal.loop-number-preserved
loop-number-preserved c =
    let P : List ℕ → Type 0 = λ xs. GroupsTo c.args.lines.now (c.loop-number.number + 1) xs c.class_of.new.heads.items in
    subst P (sym c.in_ok-push.ensures.items)
    (group_more c.args.lines.now c.loop-number.number c.in_ok-class.class c.loop-number.classes.items c.loop-number.heads.items
    c.class_of.new.heads.items c.loop-number.invariant c.in_ok-class.ensures)
