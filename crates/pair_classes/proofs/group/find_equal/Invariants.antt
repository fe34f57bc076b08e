use Rattle.std.proofs.Common.{◌≢◌, ℕ, ◌<◌}
use Rattle.std.specs.Prelude.{slice_index}
use Rattle.pair_classes.specs.Groups.{line_at}
use Rattle.pair_classes.proofs.group.find_equal.Given as goal

abbrev pub invariant-loop-place : goal.invariant-loop-place
invariant-loop-place l = (k : ℕ) → k < l.place → line_at l.lines (slice_index l.heads k) ≢ l.line
