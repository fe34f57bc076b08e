use Rattle.std.proofs.Common.{◌≡◌, ℕ, ◌<◌, get_or, true, length, pos, ◌≤ℤ◌, ◌==◌, if◌then◌else◌}
use Rattle.exact_lp.specs.declared.row.Row.{Row}
use Rattle.exact_lp.specs.Columns.{value_at}
use Rattle.tests_programs.proofs.tests.programs.rows.is_opening.Given as goal

abbrev pub invariant-loop-at : goal.invariant-loop-at
invariant-loop-at l = record {
  equal : (j : ℕ) (d : Row) → j < l.at → (get_or l.rows j d).equal ≡ true;
  leasts : (j : ℕ) (d : Row) → j < l.at → pos 0 ≤ℤ (get_or l.rows j d).least;
  own : (j : ℕ) (d : Row) → j < l.at → (k : ℕ) → k < length l.own → value_at (get_or l.rows j d).cells (get_or l.own k 0) ≡ (if k == j then pos 1 else pos 0);
}
