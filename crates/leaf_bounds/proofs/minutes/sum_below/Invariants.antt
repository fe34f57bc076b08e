use Rattle.std.proofs.Common.{◌≡◌, drop, ◌+ℤ◌}
use Rattle.leaf_bounds.specs.Places.{value_below}
use Rattle.leaf_bounds.specs.Total.{total}
use Rattle.leaf_bounds.proofs.minutes.sum_below.Given as goal

-- with what is left it is the whole sum
abbrev pub invariant-loop-x : goal.invariant-loop-x
invariant-loop-x l = l.sum +ℤ total (value_below l.keys.end) (drop l.x-index l.values) ≡ total (value_below l.keys.end) l.values
