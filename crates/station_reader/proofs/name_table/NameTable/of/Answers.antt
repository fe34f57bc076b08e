use Rattle.station_reader.proofs.Tables.{inserted}
use Rattle.station_reader.proofs.name_table.NameTable.of.Goals as goal

pub loop-entry-preserved : goal.loop-entry-preserved
loop-entry-preserved c =
    inserted c.args.naming c.args.entries.now c.loop-entry.entry-index c.entry-item.result c.loop-entry.names.keys c.insert.new.self.keys c.name_in.result
    c.requires c.loop-entry-test.true c.entry-item.is c.loop-entry.invariant c.name_in.ensures c.in_ok-insert.ensures.keys
