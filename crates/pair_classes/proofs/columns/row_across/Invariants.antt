use Rattle.std.proofs.Common.{◌≡◌, take}
use Rattle.pair_classes.specs.Classes.{picked_line}
use Rattle.pair_classes.proofs.columns.row_across.Given as goal

abbrev pub invariant-loop-line : goal.invariant-loop-line
invariant-loop-line l = l.row.items ≡ picked_line l.lines (take l.line-index l.picked) l.place
