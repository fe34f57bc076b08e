use Rattle.branching.proofs.CountLemmas.{none_bound, bound_more, some_more, whole_bound}
use Rattle.std.proofs.Common.{◌<◌, length, arith}
use Rattle.branching.proofs.count.split_bound.Goals as goal

pub returns-then-count-eq0 : goal.returns-then-count-eq0
returns-then-count-eq0 c =
    let trains = c.trains-trains.ensures.value in
    let inside = c.loop-train-test.true in
    none_bound c.args.case.now c.book-book.result.now c.loop-train.train c.count-count.result c.book-book.ensures (omega (arith, trains, inside))
    c.count-count.ensures.value c.if-count-eq0.true

pub loop-train-preserved : goal.loop-train-preserved
loop-train-preserved c =
    let trains = c.trains-trains.ensures.value in
    let inside = c.loop-train-test.true in
    let here : c.loop-train.train < length c.book-book.result.now = omega (arith, trains, inside) in
    record {
      value = bound_more c.book-book.result.now c.loop-train.train c.count-count.result here c.count-count.ensures.value c.if-count-eq0.false
          c.loop-train.invariant.some c.loop-train.bound c.saturating_mul.result c.saturating_add-bound.result 340282366920938463463374607431768211455
          c.loop-train.invariant.value c.saturating_mul.ensures c.saturating_add-bound.ensures;
      some = some_more c.book-book.result.now c.loop-train.train c.count-count.result here c.count-count.ensures.value c.if-count-eq0.false
          c.loop-train.invariant.some;
    }

pub returns : goal.returns
returns c =
    let trains = c.trains-trains.ensures.value in
    let outside = c.loop-train-test.false in
    whole_bound c.args.case.now c.book-book.result.now c.loop-train.train c.loop-train.bound c.book-book.ensures (omega (arith, trains, outside))
    c.loop-train.invariant.value
