use Rattle.std.proofs.Common.{◌≡◌}
use Rattle.station_rows.specs.Written.{train_parts}
use Rattle.station_rows.proofs.reading.weights_by_train.Given as goal

abbrev pub invariant-loop-train : goal.invariant-loop-train
invariant-loop-train l = l.lists.items ≡ train_parts l.layout l.all l.train
