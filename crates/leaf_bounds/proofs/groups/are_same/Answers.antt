use Rattle.leaf_bounds.proofs.GroupLemmas.{lengths_differ}
use Rattle.leaf_bounds.proofs.groups.are_same.Goals as goal

pub returns-then-a-b : goal.returns-then-a-b
returns-then-a-b c = lengths_differ c.args.a.now c.args.b.now c.if-a-b.true
