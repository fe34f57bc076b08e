-- Faults of duals that give no leaf.
use Rattle.exact_lp.specs.declared.source.LpFault.{LpFault}
use Rattle.exact_lp.specs.declared.source.LpFault.TheVariants.{Memory as LpMemory, Left as LpLeft}
use Rattle.dual_leaves.specs.declared.fault.DualFault.{DualFault}
use Rattle.dual_leaves.specs.declared.fault.DualFault.TheVariants.{Memory, Left}

abbrev pub fault_of : LpFault → DualFault
fault_of LpMemory = Memory
fault_of LpLeft = Left
