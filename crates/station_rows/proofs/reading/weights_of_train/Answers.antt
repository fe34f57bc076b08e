use Rattle.std.proofs.Common.{arith}
use Rattle.station_rows.proofs.There.{part_within}
use Rattle.station_rows.proofs.reading.weights_of_train.Goals as goal

pub part-requires : goal.part-requires
part-requires c =
    let most = part_within c.args.layout.now c.args.train c.requires.train in
    let long = c.requires.long in
    let start = c.start.ensures.value in
    let size = c.size.ensures in
    omega (arith, most, long, start, size)
