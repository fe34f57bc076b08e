use Rattle.std.proofs.Common.{◌≡◌, ◌+ℤ◌, drop}
use Rattle.exact_lp.specs.Sources.{opening_sum}
use Rattle.tests_programs.proofs.tests.programs.rows.met_by_opening.Given as goal

abbrev pub invariant-loop-i : goal.invariant-loop-i
invariant-loop-i l = l.total +ℤ opening_sum l.row.cells (drop l.i l.opening) (drop l.i l.own) ≡ opening_sum l.row.cells l.opening l.own
