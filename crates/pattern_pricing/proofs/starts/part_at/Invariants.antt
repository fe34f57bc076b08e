use Rattle.std.proofs.Common.{◌-◌, ◌<◌, ◌≤◌, length, slice_index}
use Rattle.pattern_pricing.proofs.starts.part_at.Given as goal

abbrev pub decreases-loop-low : goal.decreases-loop-low
decreases-loop-low l = l.high - l.low

abbrev pub invariant-loop-low : goal.invariant-loop-low
invariant-loop-low l = record {
  order : l.low < l.high;
  inside : l.high < length l.starts;
  begins : slice_index l.starts l.low ≤ l.number;
  ends : l.number < slice_index l.starts l.high;
}
