use Rattle.std.proofs.Common.{ℕ, ◌+◌, ◌<◌, get_or}
use Rattle.leaf_bounds.specs.declared.number.TrainValue.{TrainValue}
use Rattle.dual_ascent.proofs.ranges.ascend_in_trains.Given as goal

abbrev pub invariant-loop-at : goal.invariant-loop-at
invariant-loop-at l = (k : ℕ) (d : TrainValue) → k + 1 < l.at → (get_or l.u k d).train < (get_or l.u (k + 1) d).train
