use Rattle.std.proofs.Common.{◌+◌, ◌*◌, arith, ap, length}
use Rattle.pair_classes.proofs.ListedLemmas.{listed_few}
use Rattle.pair_classes.proofs.meetings.Meetings.new.Goals as goal

pub of-requires-clause-count : goal.of-requires-clause-count
of-requires-clause-count c =
    let few = listed_few c.args.case.now (201 * c.loop-first.first + 1) c.loop-first.pairs.items c.loop-first.invariant in
    let same = ap length c.deref-2.ensures.value in
    omega (arith, few, same, c.trains-trains.ensures.limits.trains, c.trains-trains.ensures.value)

pub by_train-requires : goal.by_train-requires
by_train-requires c =
    let few = listed_few c.args.case.now (201 * c.loop-first.first + 1) c.loop-first.pairs.items c.loop-first.invariant in
    let same = ap length c.deref-3.ensures.value in
    omega (arith, few, same, c.trains-trains.ensures.limits.trains, c.trains-trains.ensures.value)
