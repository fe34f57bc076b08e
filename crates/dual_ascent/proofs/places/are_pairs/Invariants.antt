use Rattle.std.proofs.Common.{ℕ, ◌<◌, get_or}
use Rattle.leaf_bounds.specs.Shown.{IsPairThere}
use Rattle.leaf_bounds.specs.declared.number.PairValue.{PairValue}
use Rattle.dual_ascent.proofs.places.are_pairs.Given as goal

abbrev pub invariant-loop-x : goal.invariant-loop-x
invariant-loop-x l = (k : ℕ) (d : PairValue) → k < l.x-index → IsPairThere l.case (get_or l.entries k d)
