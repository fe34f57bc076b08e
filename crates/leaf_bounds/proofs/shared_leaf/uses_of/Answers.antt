use Rattle.leaf_bounds.proofs.SharingLemmas.{carried_by, uses_more, uses_end}
use Rattle.leaf_bounds.proofs.shared_leaf.uses_of.Goals as goal

pub loop-k-preserved : goal.loop-k-preserved
loop-k-preserved c =
    uses_more c.args._leaf.now c.args.tables.now c.loop-k.k c.index-tables-k.result c.loop-k.uses.items c.push_use.new.uses.items _
    c.carries-is_used.result c.loop-k-test.true c.index-tables-k.is c.loop-k.invariant
    (carried_by c.args._leaf.now c.args.groups.now c.index-tables-k.result c.carries-is_used.result c.requires.groups c.carries-is_used.ensures)
    c.in_ok-push_use.ensures

pub returns : goal.returns
returns c = uses_end c.args._leaf.now c.args.tables.now c.loop-k.k _ _ c.loop-k-test.false c.loop-k.invariant
