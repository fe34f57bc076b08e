use Rattle.std.proofs.Common.{arith, ap, length}
use Rattle.pair_classes.proofs.ListedLemmas.{listed_more}
use Rattle.pair_classes.proofs.meetings.add_pairs.Goals as goal

pub loop-second-preserved : goal.loop-second-preserved
loop-second-preserved c =
    let trains = ap length c.book.ensures in
    listed_more c.args.case.now c.args.first c.loop-second.second c.loop-second.pairs.items c.push_found.new.pairs.items c.in_ok-found.found
    (omega arith) (omega (arith, trains)) (omega (arith, trains, c.trains-second-end.ensures.limits.trains))
    c.loop-second.invariant c.in_ok-found.ensures c.in_ok-push_found.ensures
