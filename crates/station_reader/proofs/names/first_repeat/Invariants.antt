use Rattle.std.proofs.Common.{◌≡◌, map}
use Rattle.serde_json.specs.View.{view}
use Rattle.station_reader.specs.Naming.{named}
use Rattle.station_reader.specs.Classes.{repeat}
use Rattle.station_reader.proofs.Repeats.{repeats_from}
use Rattle.station_reader.proofs.names.first_repeat.Given as goal

abbrev pub invariant-loop-number : goal.invariant-loop-number
invariant-loop-number l = repeat (map (named l.naming) (map view l.entries)) ≡ repeats_from l.naming l.entries l.number
