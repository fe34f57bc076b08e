use Rattle.std.proofs.Common.{◌+◌, arith}
use Rattle.pattern_pricing.specs.Positions.{start_of}
use Rattle.pattern_pricing.proofs.Places.{count_is, start_most, start_next}
use Rattle.pattern_pricing.proofs.pick.pick.Goals as goal

pub loop-train-init : goal.loop-train-init
unfolding start_of
loop-train-init c = λ n h k. absurd (omega (arith, k))

pub least_negative-found-requires-clause-order : goal.least_negative-found-requires-clause-order
least_negative-found-requires-clause-order c =
    let next = start_next c.args.layout.now c.loop-train.train in
    let a = c.start.ensures.value in
    let b = c.start-in-loop-train.ensures.value in
    omega (arith, next, a, b)

pub least_negative-found-requires-clause-inside : goal.least_negative-found-requires-clause-inside
least_negative-found-requires-clause-inside c =
    let l = c.args.layout.now in
    let inside = c.loop-train-test.true in
    let trains = c.trains-train-end.ensures.value in
    let most = start_most l (c.loop-train.train + 1) (omega (arith, inside, trains)) in
    let count = count_is l in
    let long = c.requires in
    let b = c.start-in-loop-train.ensures.value in
    omega (arith, most, count, long, b)

pub least_negative-requires-clause-order : goal.least_negative-requires-clause-order
least_negative-requires-clause-order c =
    let count = count_is c.args.layout.now in
    let a = c.lefts.ensures.value in
    let b = c.count-count.ensures.value in
    omega (arith, count, a, b)
