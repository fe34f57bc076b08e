use Rattle.std.proofs.Common.{ℕ, ◌<◌, get_or}
use Rattle.leaf_bounds.specs.declared.number.TrainValue.{TrainValue}
use Rattle.leaf_bounds.specs.Listed.{IsTrainValue}
use Rattle.dual_ascent.proofs.ranges.are_each_of_train.Given as goal

abbrev pub invariant-loop-x : goal.invariant-loop-x
invariant-loop-x l = (k : ℕ) (d : TrainValue) → k < l.x-index → IsTrainValue (get_or l.u k d)
