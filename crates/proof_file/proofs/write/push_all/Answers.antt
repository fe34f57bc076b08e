use Rattle.std.proofs.Common.{subst, sym}
use Rattle.proof_file.specs.Text.{AreInRange}
use Rattle.proof_file.proofs.WriteLemmas.{item_in_range, item_written}
use Rattle.proof_file.proofs.write.push_all.Goals as goal

pub push-requires : goal.push-requires
push-requires g c =
    subst (λ (x : g.row.W.Denot). AreInRange (g.W.Written.records x)) (sym c.item-item.is)
    (item_in_range g.W.Written.records c.args.items.now c.loop-item.item-index c.item-item.result c.loop-item-test.true c.requires)

pub loop-item-preserved : goal.loop-item-preserved
loop-item-preserved g c =
    item_written g.W.Written.records c.args.items.now c.loop-item.item-index c.item-item.result c.args.into.now.items c.loop-item.into.items c.push.new.into.items
    c.loop-item-test.true c.loop-item.invariant (rw (← c.item-item.is) c.in_ok-push.ensures)
