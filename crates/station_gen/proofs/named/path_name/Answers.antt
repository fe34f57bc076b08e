use Rattle.station.specs.declared.part.Path.{Path}
use Rattle.station_gen.proofs.NameText.{nothing_named}
use Rattle.station_gen.proofs.named.path_name.Goals as goal

pub returns-in-None : goal.returns-in-None
returns-in-None c = nothing_named (λ (p : Path). p.name) c.args.station.now.paths c.args.number c.in-None.ensures.value
