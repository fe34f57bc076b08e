use Rattle.std.proofs.Common.{◌≡◌, map}
use Rattle.station.specs.Allowed.{numbers}
use Rattle.pair_classes.specs.Classes.{column}
use Rattle.pair_classes.proofs.columns.columns.Given as goal

abbrev pub invariant-loop-number : goal.invariant-loop-number
invariant-loop-number l = l.columns.items ≡ map (column l.case l.first l.second) (numbers l.number)
