use Rattle.std.proofs.Common.{◌≡◌, map, take}
use Rattle.serde_json.specs.View.{view}
use Rattle.station_reader.specs.Naming.{named}
use Rattle.station_reader.proofs.name_table.NameTable.of.Given as goal

abbrev pub invariant-loop-entry : goal.invariant-loop-entry
invariant-loop-entry l = map (λ s. s.now) l.names.keys ≡ map (named l.naming) (map view (take l.entry-index l.entries))
