use Rattle.std.proofs.Common.{◌≡◌}
use Rattle.std.specs.Prelude.{filter, slice_get}
use Rattle.station.specs.Allowed.{numbers}
use Rattle.pair_classes.specs.Meetings.{is_with}
use Rattle.pair_classes.proofs.by_train.places_of.Given as goal

abbrev pub invariant-loop-place : goal.invariant-loop-place
invariant-loop-place l = l.places.items ≡ filter (λ k. is_with l.train (slice_get l.pairs k)) (numbers l.place)
