use Rattle.std.proofs.Common.{ℕ, ◌+◌, ◌<◌, get_or}
use Rattle.exact_lp.specs.declared.row.RowCell.{RowCell}
use Rattle.tests_programs.proofs.tests.programs.rows.are_ascending.Given as goal

abbrev pub invariant-loop-at : goal.invariant-loop-at
invariant-loop-at l = (k : ℕ) (d : RowCell) → k + 1 < l.at → (get_or l.cells k d).column < (get_or l.cells (k + 1) d).column
