use Rattle.std.proofs.Common.{◌≡◌, map, take}
use Rattle.transport.specs.Kept.{whole_entry}
use Rattle.transport.proofs.kept.whole_entries.Given as goal

abbrev pub invariant-loop-entry : goal.invariant-loop-entry
invariant-loop-entry l = l.whole.items ≡ map (whole_entry l.rows l.columns) (take l.entry-index l.entries)
