use Rattle.station.specs.declared.part.Platform.{Platform}
use Rattle.station_gen.proofs.NameText.{nothing_named}
use Rattle.station_gen.proofs.named.platform_name.Goals as goal

pub returns-in-None : goal.returns-in-None
returns-in-None c = nothing_named (λ (p : Platform). p.name) c.args.station.now.platforms c.args.number c.in-None.ensures.value
