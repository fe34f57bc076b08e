use Rattle.std.proofs.Common.{◌≡◌, ℕ, List, ◌∙◌, bytes_eq}
use Rattle.std.specs.Prelude.{position}
use Rattle.std.specs.Borrow.{Bor}
use Rattle.station.proofs.Lists.{position-made}
use Rattle.station_reader.proofs.name_table.NameTable.number.Goals as goal

pub returns : goal.returns
returns c =
    let found : c.get_index_of.result ≡ position (bytes_eq c.args.name.now) c.args.self.now =
    c.get_index_of.ensures.index ∙ position-made (bytes_eq c.args.name.now) (λ (s : Bor (List ℕ)). s.now) c.self.inside.names.keys
    ∙ rw c.self.view_is in
    rw (c.unwrap_or.ensures, found)
