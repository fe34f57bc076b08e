use Rattle.std.proofs.Common.{sym, ◌∙◌, ap, arith}
use Rattle.station_reader.specs.Reading.{reading}
use Rattle.platform_cli.specs.View.{reading_of}
use Rattle.platform_cli.proofs.Files.{later_all}
use Rattle.platform_cli.proofs.Readings.{instance_read}
use Rattle.platform_cli.proofs.instance.read_instance.Goals as goal

pub returns-in_ok-instance_of-in-Ok-clause-read : goal.returns-in_ok-instance_of-in-Ok-clause-read
returns-in_ok-instance_of-in-Ok-clause-read g c =
    instance_read g.S.Shelf.tells (g.S.Shelf.held c.args.shelf.now) c.args.name.now 16777217 c.in-Ok.bytes.items (reading_of c.in_ok-instance_of-in-Ok.field-0) (omega arith)
    c.in-Ok.ensures.input (ap reading (sym c.deref.ensures.value) ∙ c.in_ok-instance_of-in-Ok.ensures)

pub returns-in_ok-instance_of-in-Ok-clause-later : goal.returns-in_ok-instance_of-in-Ok-clause-later
returns-in_ok-instance_of-in-Ok-clause-later g c = later_all c.args.name.now _ _ c.read_whole.result c.read_whole.ensures.cause
