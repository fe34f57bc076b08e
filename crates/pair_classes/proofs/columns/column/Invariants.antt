use Rattle.std.proofs.Common.{◌≡◌, map, pos}
use Rattle.station.specs.Allowed.{numbers}
use Rattle.pair_classes.specs.Classes.{sealed_at}
use Rattle.pair_classes.proofs.columns.column.Given as goal

abbrev pub invariant-loop-other : goal.invariant-loop-other
invariant-loop-other l = l.prices.items ≡ map (λ i. pos (sealed_at l.case l.first l.second i l.number)) (numbers l.other)
