use Rattle.pair_classes.proofs.WindowLemmas.{covers_next}
use Rattle.pair_classes.proofs.window.window_of.Goals as goal

pub loop-number-preserved : goal.loop-number-preserved
loop-number-preserved c =
    covers_next c.args.case.now c.args.train c.loop-number.number c.loop-number.window c.reach_of.result c.join-window.result
    c.loop-number.invariant c.reach_of.ensures c.join-window.ensures.first c.join-window.ensures.second
