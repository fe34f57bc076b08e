use Rattle.std.proofs.Common.{ℕ, List, ◌∙◌, bytes_eq}
use Rattle.std.specs.Borrow.{Bor}
use Rattle.station_reader.specs.First.{occurs}
use Rattle.station.proofs.Lists.{any-made}
use Rattle.station_reader.proofs.name_table.NameTable.has.Goals as goal

pub returns : goal.returns
unfolding occurs
returns c =
    c.contains.ensures ∙ any-made (bytes_eq c.args.name.now) (λ (s : Bor (List ℕ)). s.now) c.self.inside.names.keys ∙ rw c.self.view_is
