use Rattle.std.proofs.Common.{◌≡◌}
use Rattle.leaf_bounds.specs.Fixed.{minute_list}
use Rattle.leaf_bounds.proofs.fixed.opened_list.Given as goal

abbrev pub invariant-loop-platform : goal.invariant-loop-platform
invariant-loop-platform l = l.v.items ≡ minute_list l.case l.plan l.platform
