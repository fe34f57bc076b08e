use Rattle.station_gen.proofs.NameText.{nothing_there}
use Rattle.station_gen.proofs.named.direction_name.Goals as goal

pub returns-in-None : goal.returns-in-None
returns-in-None c = nothing_there c.args.station.now.directions c.args.number c.in-None.ensures.value
