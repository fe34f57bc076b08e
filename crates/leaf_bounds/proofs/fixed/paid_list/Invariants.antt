use Rattle.std.proofs.Common.{◌≡◌}
use Rattle.leaf_bounds.specs.Building.{value_list}
use Rattle.leaf_bounds.specs.Fixed.{paid}
use Rattle.leaf_bounds.proofs.fixed.paid_list.Given as goal

abbrev pub invariant-loop-train : goal.invariant-loop-train
invariant-loop-train l = l.u.items ≡ value_list (paid l.case l.plan) l.train
