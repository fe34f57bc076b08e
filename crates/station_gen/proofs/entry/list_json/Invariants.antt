use Rattle.std.proofs.Common.{◌≡◌, map, take}
use Rattle.serde_json.specs.View.{view}
use Rattle.station.specs.Shown.{record_of}
use Rattle.station_gen.proofs.entry.list_json.Given as goal

abbrev pub invariant-loop-entry : goal.invariant-loop-entry
invariant-loop-entry g l = map view l.found.items ≡ map (λ x. g.T.Entry.json x l.version (record_of l.station)) (take l.entry-index l.entries)
