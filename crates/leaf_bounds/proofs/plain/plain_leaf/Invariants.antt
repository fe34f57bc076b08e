use Rattle.std.proofs.Common.{◌≡◌}
use Rattle.leaf_bounds.specs.Building.{value_list}
use Rattle.leaf_bounds.specs.Made.{least_price}
use Rattle.leaf_bounds.proofs.plain.plain_leaf.Given as goal

abbrev pub invariant-loop-train : goal.invariant-loop-train
invariant-loop-train l = l.u.items ≡ value_list (least_price l.case l.allowed.lists) l.train
