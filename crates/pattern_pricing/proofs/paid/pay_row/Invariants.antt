use Rattle.std.proofs.Common.{◌≡◌, ℕ, ◌+◌, ◌<◌, ◌≤◌, ◌-ℤ◌, drop, length, unsigned_abs}
use Rattle.pattern_pricing.specs.Reduced.{at, cell_sizes, paid_by_cells}
use Rattle.pattern_pricing.proofs.paid.pay_row.Given as goal

abbrev pub invariant-loop-cell : goal.invariant-loop-cell
invariant-loop-cell l = record {
  value : (n : ℕ) → n < length l.reduced → at l.reduced n -ℤ paid_by_cells l.value (drop l.cell-index l.cells) n ≡ at l.initial.reduced n -ℤ paid_by_cells l.value l.cells n;
  ledger : l.initial.width ≤ l.width;
  room : (n : ℕ) → n < length l.reduced → unsigned_abs (at l.reduced n) + cell_sizes l.value (drop l.cell-index l.cells) ≤ unsigned_abs (at l.initial.reduced n) + cell_sizes l.value l.cells;
}
