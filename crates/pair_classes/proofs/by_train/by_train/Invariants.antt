use Rattle.std.proofs.Common.{◌≡◌, map}
use Rattle.station.specs.Allowed.{numbers}
use Rattle.pair_classes.specs.Meetings.{places_with}
use Rattle.pair_classes.proofs.by_train.by_train.Given as goal

abbrev pub invariant-loop-train : goal.invariant-loop-train
invariant-loop-train l = l.lists.items ≡ map (places_with l.pairs) (numbers l.train)
