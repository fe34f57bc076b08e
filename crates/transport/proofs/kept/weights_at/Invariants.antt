use Rattle.std.proofs.Common.{◌≡◌, map, take, slice_index}
use Rattle.transport.proofs.kept.weights_at.Given as goal

abbrev pub invariant-loop-place : goal.invariant-loop-place
invariant-loop-place l = l.some.items ≡ map (slice_index l.weights) (take l.place-index l.places)
