use Rattle.leaf_bounds.proofs.SharingLemmas.{carried_by, used_more, used_end}
use Rattle.leaf_bounds.proofs.shared_leaf.pairs_used.Goals as goal

pub loop-table-preserved : goal.loop-table-preserved
loop-table-preserved c =
    used_more c.args._leaf.now c.args.tables.now c.loop-table.table-index c.table-item.result c.loop-table.pairs.items c.push_pair.new.pairs.items _
    c.carries-is_used.result c.loop-table-test.true c.table-item.is c.loop-table.invariant
    (carried_by c.args._leaf.now c.args.groups.now c.table-item.result c.carries-is_used.result c.requires c.carries-is_used.ensures)
    c.in_ok-push_pair.ensures

pub returns : goal.returns
returns c = used_end c.args._leaf.now c.args.tables.now c.loop-table.table-index _ _ c.loop-table-test.false c.loop-table.invariant
