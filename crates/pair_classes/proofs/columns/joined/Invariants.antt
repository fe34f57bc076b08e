use Rattle.std.proofs.Common.{◌≡◌, take}
use Rattle.std.specs.List.{flat_map}
use Rattle.pair_classes.specs.Groups.{line_at}
use Rattle.pair_classes.proofs.columns.joined.Given as goal

abbrev pub invariant-loop-line : goal.invariant-loop-line
invariant-loop-line l = l.prices.items ≡ flat_map (line_at l.lines) (take l.line-index l.picked)
