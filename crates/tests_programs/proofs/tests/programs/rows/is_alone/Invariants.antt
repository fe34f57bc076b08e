use Rattle.std.proofs.Common.{◌≡◌, ℕ, ◌<◌, get_or, pos, ◌==◌, if◌then◌else◌}
use Rattle.exact_lp.specs.Columns.{value_at}
use Rattle.tests_programs.proofs.tests.programs.rows.is_alone.Given as goal

abbrev pub invariant-loop-k : goal.invariant-loop-k
invariant-loop-k l = (k : ℕ) → k < l.k → value_at l.row.cells (get_or l.own k 0) ≡ (if k == l.at then pos 1 else pos 0)
