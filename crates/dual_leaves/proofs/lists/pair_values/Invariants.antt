use Rattle.std.proofs.Common.{◌≡◌, ◌++◌}
use Rattle.dual_leaves.specs.Divided.{pair_value, quotients}
use Rattle.dual_leaves.proofs.lists.pair_values.Given as goal

abbrev pub invariant-loop-key : goal.invariant-loop-key
invariant-loop-key l = l.values.items ++ quotients pair_value l.divisor l.key-iterator ≡ quotients pair_value l.divisor l.sums.entries
