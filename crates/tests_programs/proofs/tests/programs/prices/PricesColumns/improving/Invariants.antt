use Rattle.std.proofs.Common.{ℕ, ◌<◌, ◌≤◌, get_or, pos, ◌≤ℤ◌}
use Rattle.exact_lp.specs.Programs.{reduced_price}
use Rattle.tests_programs.proofs.tests.programs.prices.PricesColumns.improving.Given as goal

abbrev pub invariant-loop-column : goal.invariant-loop-column
invariant-loop-column l = record {
  so_far : (k : ℕ) → k < l.column → pos 0 ≤ℤ reduced_price (pos (get_or l.self.listed k l.self.rest)) l.duals k;
  ledger : l.initial.width ≤ l.width;
}
