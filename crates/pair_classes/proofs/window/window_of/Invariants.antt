use Rattle.std.proofs.Common.{ℕ, ◌<◌}
use Rattle.patterns.specs.Book.{pattern_at}
use Rattle.pair_classes.specs.Windows.{Covers}
use Rattle.pair_classes.proofs.window.window_of.Given as goal

abbrev pub invariant-loop-number : goal.invariant-loop-number
invariant-loop-number l = (i : ℕ) → i < l.number → Covers l.case.station (pattern_at l.case.book l.train i) l.window
