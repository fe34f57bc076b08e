use Rattle.station_reader.proofs.draft.make_draft.Goals as goal

pub platforms-requires : goal.platforms-requires
platforms-requires c = rw c.entries_at-2.ensures c.requires.passes.platforms
