use Rattle.std.proofs.Common.{◌∙◌, ap, arith, zero-add, cond, int_le, pos, ◌+ℤ◌, ℤ}
use Rattle.station.specs.Counted.{total, departures, arrive_minute}
use Rattle.station_reader.proofs.Windows.{rest-start, rest-step, one_more, at_most_one}
use Rattle.station_reader.proofs.patterns.departure_count.Goals as goal

pub loop-shift-init : goal.loop-shift-init
unfolding departures
loop-shift-init c =
    let t = c.args.train.now in
    (zero-add _ ∙ ap (total (λ (d : ℤ). cond (int_le (arrive_minute t c.args.arrival +ℤ pos t.dwell) d) 1 0)) (rest-start t.depart t.depart_early t.depart_late), omega arith)

pub loop-shift-preserved : goal.loop-shift-preserved
loop-shift-preserved c =
    let t = c.args.train.now in
    let small = at_most_one _ _ c.dwell_count-count.ensures in (
      one_more c.loop-shift.count _ _ _ _ _ c.dwell_count-count.ensures
          (ap (total (λ (d : ℤ). cond (int_le (arrive_minute t c.args.arrival +ℤ pos t.dwell) d) 1 0)) (rest-step t.depart t.depart_early t.depart_late c.loop-shift.shift c.loop-shift-test.true))
          c.loop-shift.invariant.0,
      omega (arith, small, c.loop-shift.invariant.1),
    )
