use Rattle.serde_json.specs.View.{view}
use Rattle.station_reader.proofs.Kept.{paths_new}
use Rattle.station_reader.proofs.reader.station_named.Goals as goal

pub of-requires : goal.of-requires
of-requires c = rw c.entries_at.ensures (paths_new (view c.args.tree.now) c.requires.double)
