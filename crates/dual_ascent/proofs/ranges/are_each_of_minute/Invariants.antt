use Rattle.std.proofs.Common.{ℕ, ◌<◌, get_or}
use Rattle.leaf_bounds.specs.declared.number.MinuteValue.{MinuteValue}
use Rattle.leaf_bounds.specs.Listed.{IsMinuteValue}
use Rattle.dual_ascent.proofs.ranges.are_each_of_minute.Given as goal

abbrev pub invariant-loop-x : goal.invariant-loop-x
invariant-loop-x l = (k : ℕ) (d : MinuteValue) → k < l.x-index → IsMinuteValue (get_or l.v k d)
