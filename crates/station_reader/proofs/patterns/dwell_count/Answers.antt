use Rattle.std.proofs.Common.{arith, pos, ◌+ℤ◌, ◌≤ℤ◌, ◌<ℤ◌}
use Rattle.std.proofs.lemmas.Int.{ints}
use Rattle.station.specs.Counted.{arrive_minute, depart_minute}
use Rattle.station_reader.proofs.Windows.{kept_dwell, broken_dwell}
use Rattle.station_reader.proofs.patterns.dwell_count.Goals as goal

pub returns-then-arrive-train : goal.returns-then-arrive-train
returns-then-arrive-train c =
    let h : (arrive_minute c.args.train.now c.args.arrival +ℤ pos c.args.train.now.dwell) ≤ℤ depart_minute c.args.train.now c.args.departure = omega (arith, ints) in
    kept_dwell _ _ h

pub returns-else-arrive-train : goal.returns-else-arrive-train
returns-else-arrive-train c =
    let h : depart_minute c.args.train.now c.args.departure <ℤ (arrive_minute c.args.train.now c.args.arrival +ℤ pos c.args.train.now.dwell) = omega (arith, ints) in
    broken_dwell _ _ h
