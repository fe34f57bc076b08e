use Rattle.std.proofs.Common.{map}
use Rattle.leaf_bounds.specs.Group.{group_in}
use Rattle.leaf_bounds.proofs.SharingLemmas.{new_among, tables_more, tables_end}
use Rattle.leaf_bounds.proofs.sharing.repeated_once.Goals as goal

pub loop-group-preserved : goal.loop-group-preserved
loop-group-preserved c =
    tables_more c.args.all.now c.loop-group.group-index c.group-item.result (map group_in c.loop-group.tables.items) (map group_in c.push_new.new.tables.items)
    c.is_new-new.result c.loop-group-test.true c.group-item.is c.loop-group.invariant
    (new_among c.args.all.now c.as_slice.result.now c.loop-group.tables.items c.group-item.result c.is_new-new.result c.is_new-new.ensures c.as_slice.ensures.value)
    c.in_ok-push_new.ensures

pub returns : goal.returns
returns c = tables_end c.args.all.now c.loop-group.group-index _ c.loop-group-test.false c.loop-group.invariant
