use Rattle.std.proofs.Common.{◌≡◌, ◌||◌, map, drop}
use Rattle.std.specs.List.{list_any}
use Rattle.serde_json.specs.View.{view}
use Rattle.station.specs.declared.part.PathPair.{PathPair}
use Rattle.station_reader.specs.Reading.{same_pair, listed_pair}
use Rattle.station_reader.specs.Marked.{is_marked, IsNumbered}
use Rattle.station_reader.proofs.pairs.marked_pairs.Given as goal

abbrev pub invariant-loop-entry : goal.invariant-loop-entry
invariant-loop-entry l =
    (x : PathPair) → IsNumbered x
    → (is_marked l.table x || list_any (same_pair x) (map (listed_pair l.paths) (map view (drop l.entry-index l.entries))))
    ≡ list_any (same_pair x) (map (listed_pair l.paths) (map view l.entries))
