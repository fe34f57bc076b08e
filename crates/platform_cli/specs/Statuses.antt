-- The numbers of statuses.
use Rattle.std.specs.Prelude.{ℕ}
use Rattle.shelf.specs.declared.fault.ShelfFault.{ShelfFault}
use Rattle.shelf.specs.declared.fault.ShelfFault.TheVariants.{Failed, Memory}
use Rattle.platform_cli.specs.declared.output.Ending.{Ending}
use Rattle.platform_cli.specs.declared.output.Ending.TheVariants as endings
use Rattle.platform_cli.specs.declared.output.Stop.{Stop}
use Rattle.platform_cli.specs.declared.output.Stop.TheVariants as stops

abbrev pub ending_code : Ending → ℕ
ending_code endings.Done = 0
ending_code endings.Usage = 2
ending_code endings.InstanceRefused = 3
ending_code endings.PlanRefused = 4
ending_code endings.ProofRefused = 5
ending_code endings.Conflict = 9
ending_code endings.NoPlan = 10
ending_code endings.Open = 11
ending_code endings.Window = 12

abbrev pub stop_code : Stop → ℕ
stop_code stops.ReadFault = 6
stop_code stops.WriteFault = 7
stop_code stops.Memory = 8

-- the stop for a fault of a write or a put
abbrev pub stop_of : ShelfFault → Stop
stop_of Failed = stops.WriteFault
stop_of Memory = stops.Memory

-- the stop for a fault of a read
abbrev pub read_stop_of : ShelfFault → Stop
read_stop_of Failed = stops.ReadFault
read_stop_of Memory = stops.Memory
