use Rattle.std.proofs.Common.{◌≡◌, ℕ, ◌+◌, ◌<◌, ◌≤◌, ◌-ℤ◌, drop, length, unsigned_abs}
use Rattle.exact_lp.specs.Programs.{paid_by_rows}
use Rattle.pattern_pricing.specs.Reduced.{at, paid_sizes}
use Rattle.pattern_pricing.proofs.paid.pay_rows.Given as goal

abbrev pub invariant-loop-place : goal.invariant-loop-place
invariant-loop-place l = record {
  value : (n : ℕ) → n < length l.reduced → at l.reduced n -ℤ paid_by_rows (drop l.place l.rows) (drop l.place l.values) n ≡ at l.initial.reduced n -ℤ paid_by_rows l.rows l.values n;
  ledger : l.initial.width ≤ l.width;
  room : (n : ℕ) → n < length l.reduced → unsigned_abs (at l.reduced n) + paid_sizes (drop l.place l.rows) (drop l.place l.values) ≤ unsigned_abs (at l.initial.reduced n) + paid_sizes l.rows l.values;
}
