use Rattle.std.proofs.Common.{ℕ, ◌<◌, ◌≤◌, ◌+◌, slice_index}
use Rattle.transport.specs.Core.{lifted}
use Rattle.transport.proofs.potentials.column_most.Given as goal

abbrev pub invariant-loop-row : goal.invariant-loop-row
invariant-loop-row g l = record {
  bound : l.most ≤ 20000000000000;
  below : (i : ℕ) → i < l.row → slice_index l.rows i + l.most ≤ lifted (g.C.Cost.table l.cost) i l.column;
  greatest : (b : ℕ) → b ≤ 20000000000000 → ((i : ℕ) → i < l.row → slice_index l.rows i + b ≤ lifted (g.C.Cost.table l.cost) i l.column) → b ≤ l.most;
}
