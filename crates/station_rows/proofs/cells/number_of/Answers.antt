use Rattle.pattern_pricing.proofs.Places.{position_of}
use Rattle.station_rows.proofs.cells.number_of.Goals as goal

pub returns : goal.returns
returns c = position_of c.args.layout.now c.number.result c.args.column.now c.number.ensures.value
