use Rattle.std.proofs.Common.{ℕ, ◌<◌, get_or}
use Rattle.leaf_bounds.specs.declared.number.PairValue.{PairValue}
use Rattle.leaf_bounds.specs.Listed.{IsPairValue}
use Rattle.dual_ascent.proofs.ranges.are_each_of_pair.Given as goal

abbrev pub invariant-loop-x : goal.invariant-loop-x
invariant-loop-x l = (k : ℕ) (d : PairValue) → k < l.x-index → IsPairValue (get_or l.xs k d)
