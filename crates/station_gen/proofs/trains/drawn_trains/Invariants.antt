use Rattle.std.proofs.Common.{◌≡◌, ◌*◌, map}
use Rattle.station.specs.Allowed.{numbers}
use Rattle.station_gen.specs.Made.{state_after, made_train}
use Rattle.station_gen.proofs.trains.drawn_trains.Given as goal

abbrev pub invariant-loop-train : goal.invariant-loop-train
invariant-loop-train l = record {
  items : l.found.items ≡ map (λ k. made_train (state_after l.number (5 * k)) k) (numbers l.train);
  state : l.generator.state ≡ state_after l.number (5 * l.train);
}
