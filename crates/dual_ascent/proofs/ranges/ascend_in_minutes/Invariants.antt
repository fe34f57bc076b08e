use Rattle.std.proofs.Common.{ℕ, ◌+◌, ◌<◌, ◌<ℤ◌, get_or}
use Rattle.leaf_bounds.specs.declared.number.MinuteValue.{MinuteValue}
use Rattle.leaf_bounds.specs.Listed.{minute_key}
use Rattle.dual_ascent.proofs.ranges.ascend_in_minutes.Given as goal

abbrev pub invariant-loop-at : goal.invariant-loop-at
invariant-loop-at l = (k : ℕ) (d : MinuteValue) → k + 1 < l.at → minute_key (get_or l.v k d) <ℤ minute_key (get_or l.v (k + 1) d)
