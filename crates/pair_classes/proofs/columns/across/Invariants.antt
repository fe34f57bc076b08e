use Rattle.std.proofs.Common.{◌≡◌, map}
use Rattle.station.specs.Allowed.{numbers}
use Rattle.pair_classes.specs.Classes.{picked_line}
use Rattle.pair_classes.proofs.columns.across.Given as goal

abbrev pub invariant-loop-place : goal.invariant-loop-place
invariant-loop-place l = l.rows.items ≡ map (picked_line l.lines l.picked) (numbers l.place)
