use Rattle.std.specs.Map.{values_of}
use Rattle.dual_leaves.specs.Divided.{AreSmall}
use Rattle.dual_leaves.proofs.divide.too_wide.Given as goal

abbrev pub invariant-loop-value : goal.invariant-loop-value
invariant-loop-value g l = AreSmall l.divisor l.value-iterator → AreSmall l.divisor (values_of l.sums.entries)
