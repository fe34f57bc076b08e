use Rattle.std.proofs.Common.{ℕ, ◌+◌, ◌<◌, get_or}
use Rattle.leaf_bounds.specs.declared.number.PairValue.{PairValue}
use Rattle.leaf_bounds.specs.Listed.{pair_key}
use Rattle.dual_ascent.proofs.ranges.ascend_in_pairs.Given as goal

abbrev pub invariant-loop-at : goal.invariant-loop-at
invariant-loop-at l = (k : ℕ) (d : PairValue) → k + 1 < l.at → pair_key (get_or l.xs k d) < pair_key (get_or l.xs (k + 1) d)
