use Rattle.std.proofs.Common.{◌≡◌, ◌++◌, drop}
use Rattle.transport.specs.Kept.{kept_from}
use Rattle.transport.proofs.kept.places_of.Given as goal

abbrev pub invariant-loop-place : goal.invariant-loop-place
invariant-loop-place l = kept_from 0 l.weights ≡ l.places.items ++ kept_from l.place (drop l.place l.weights)
