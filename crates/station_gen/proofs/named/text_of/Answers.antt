use Rattle.std.proofs.Common.{sym, subst}
use Rattle.std.specs.Str.{IsUtf8}
use Rattle.station_gen.proofs.NameText.{utf8-name}
use Rattle.station_gen.proofs.named.text_of.Goals as goal

pub unreachable-requires : goal.unreachable-requires
unreachable-requires c = c.in-Err.ensures.cases.0 (subst IsUtf8 (sym c.bytes.ensures.value) (utf8-name c.args.name.now c.bytes.ensures.name))
