use Rattle.pair_classes.specs.Classes.{picked_line}
use Rattle.pair_classes.proofs.PricedLemmas.{map_numbers_more}
use Rattle.pair_classes.proofs.columns.across.Goals as goal

pub loop-place-preserved : goal.loop-place-preserved
loop-place-preserved c =
    map_numbers_more (picked_line c.args.lines.now c.args.picked.now) c.loop-place.place
    c.loop-place.rows.items c.push.new.self.items c.in_ok-row_across.field-0 c.loop-place.invariant c.in_ok-push.ensures.items c.in_ok-row_across.ensures
