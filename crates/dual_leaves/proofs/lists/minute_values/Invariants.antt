use Rattle.std.proofs.Common.{◌≡◌, ◌++◌}
use Rattle.dual_leaves.specs.Divided.{minute_value, quotients}
use Rattle.dual_leaves.proofs.lists.minute_values.Given as goal

abbrev pub invariant-loop-key : goal.invariant-loop-key
invariant-loop-key l = l.values.items ++ quotients minute_value l.divisor l.key-iterator ≡ quotients minute_value l.divisor l.sums.entries
