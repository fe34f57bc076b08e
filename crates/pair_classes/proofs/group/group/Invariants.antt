use Rattle.pair_classes.proofs.GroupLemmas.{GroupsTo}
use Rattle.pair_classes.proofs.group.group.Given as goal

abbrev pub invariant-loop-number : goal.invariant-loop-number
invariant-loop-number l = GroupsTo l.lines l.number l.classes.items l.heads.items
