use Rattle.std.proofs.Common.{ℕ, ◌<◌, get_or}
use Rattle.patterns.specs.Allowed.{list_of}
use Rattle.std.specs.Prelude.{Contains}
use Rattle.leaf_bounds.specs.declared.number.PairValue.{PairValue}
use Rattle.dual_ascent.proofs.places.are_numbers_of_second.Given as goal

abbrev pub invariant-loop-x : goal.invariant-loop-x
invariant-loop-x l = (k : ℕ) (d : PairValue) → k < l.x-index → Contains (list_of l.allowed.lists (get_or l.entries k d).second) (get_or l.entries k d).number
