use Rattle.std.proofs.Common.{◌≤◌}
use Rattle.exact_lp.proofs.reading.as_reading.Given as goal

abbrev pub invariant-loop-at : goal.invariant-loop-at
invariant-loop-at l = l.initial.width ≤ l.width
