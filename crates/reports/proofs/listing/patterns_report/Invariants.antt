use Rattle.std.proofs.Common.{◌≡◌}
use Rattle.std.specs.Prelude.{flat_map}
use Rattle.station.specs.Allowed.{numbers}
use Rattle.reports.specs.Text.{train_patterns}
use Rattle.reports.proofs.listing.patterns_report.Given as goal

abbrev pub invariant-loop-train : goal.invariant-loop-train
invariant-loop-train l = l.text.items ≡ flat_map (train_patterns l.case) (numbers l.train)
