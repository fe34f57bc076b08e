use Rattle.std.proofs.Common.{◌∙◌, ap, arith, zero-add}
use Rattle.station.specs.Counted.{total, departures, times}
use Rattle.station_reader.proofs.Windows.{rest-start, rest-step, one_more}
use Rattle.station_reader.proofs.patterns.time_count.Goals as goal

pub loop-shift-init : goal.loop-shift-init
unfolding times
loop-shift-init c =
    let t = c.args.train.now in
    (zero-add _ ∙ ap (total (departures t)) (rest-start t.arrive t.arrive_early t.arrive_late), omega arith)

pub loop-shift-preserved : goal.loop-shift-preserved
loop-shift-preserved c =
    let t = c.args.train.now in (
      one_more c.loop-shift.count _ _ _ _ _ c.departure_count-count.ensures.count
          (ap (total (departures t)) (rest-step t.arrive t.arrive_early t.arrive_late c.loop-shift.shift c.loop-shift-test.true))
          c.loop-shift.invariant.0,
      omega (arith, c.departure_count-count.ensures.few, c.loop-shift.invariant.1),
    )
