use Rattle.std.proofs.Common.{◌≡◌, ◌++◌}
use Rattle.std.specs.Prelude.{flat_map}
use Rattle.station.specs.Allowed.{numbers}
use Rattle.reports.specs.Text.{pattern_line}
use Rattle.reports.proofs.listing.push_train.Given as goal

abbrev pub invariant-loop-number : goal.invariant-loop-number
invariant-loop-number l = l.into.items ≡ l.initial.into.items ++ flat_map (pattern_line l.case l.train) (numbers l.number)
