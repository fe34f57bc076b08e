use Rattle.std.proofs.Common.{◌≡◌, ◌==◌, false}
use Rattle.std.specs.List.{list_any}
use Rattle.station.specs.Allowed.{numbers}
use Rattle.pair_prices.specs.Plan.{chosen}
use Rattle.primal_heuristic.proofs.added.is_taken.Given as goal

abbrev pub invariant-loop-train : goal.invariant-loop-train
invariant-loop-train l = list_any (λ s. (chosen l.case l.earlier s).platform == l.platform) (numbers l.train) ≡ false
