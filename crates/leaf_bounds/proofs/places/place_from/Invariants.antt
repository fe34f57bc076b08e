use Rattle.leaf_bounds.specs.Places.{AreBelow}
use Rattle.leaf_bounds.proofs.places.place_from.Given as goal

-- the entries that were passed are below the number
abbrev pub invariant-loop-place : goal.invariant-loop-place
invariant-loop-place l = AreBelow l.xs l.key l.place
