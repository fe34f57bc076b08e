use Rattle.std.proofs.Common.{◌≡◌, drop, ◌+ℤ◌}
use Rattle.leaf_bounds.specs.Places.{train_value}
use Rattle.leaf_bounds.specs.Total.{total}
use Rattle.leaf_bounds.proofs.sums.u_of.Given as goal

-- with what is left it is the whole sum
abbrev pub invariant-loop-x : goal.invariant-loop-x
invariant-loop-x l = l.sum +ℤ total (train_value l.train) (drop l.x-index l.entries) ≡ total (train_value l.train) l.entries
