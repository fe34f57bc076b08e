use Rattle.std.specs.Prelude.{IsTrue}
use Rattle.station.specs.Named.{is_name}
use Rattle.station_reader.specs.Tree.{text}
use Rattle.station_reader.proofs.Made.{Each-at}
use Rattle.station_reader.proofs.convert.directions.Goals as goal

pub new-requires : goal.new-requires
new-requires c =
    rw (c.as_bytes.ensures.value, c.text.ensures)
    (Each-at (λ d. IsTrue (is_name (text d))) c.args.entries.now c.loop-entry.entry-index c.entry-item.result c.requires c.loop-entry-test.true c.entry-item.is)
