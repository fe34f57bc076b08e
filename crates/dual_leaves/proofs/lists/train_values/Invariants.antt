use Rattle.std.proofs.Common.{◌≡◌, ◌++◌}
use Rattle.dual_leaves.specs.Divided.{train_value, quotients}
use Rattle.dual_leaves.proofs.lists.train_values.Given as goal

abbrev pub invariant-loop-train : goal.invariant-loop-train
invariant-loop-train l = l.values.items ++ quotients train_value l.divisor l.train-iterator ≡ quotients train_value l.divisor l.sums.entries
