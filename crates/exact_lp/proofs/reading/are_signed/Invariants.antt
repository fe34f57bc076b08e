use Rattle.std.proofs.Common.{◌≡◌, ℕ, ◌<◌, get_or, false, pos, ◌≤ℤ◌}
use Rattle.exact_lp.specs.declared.row.Row.{Row}
use Rattle.exact_lp.proofs.reading.are_signed.Given as goal

abbrev pub invariant-loop-at : goal.invariant-loop-at
invariant-loop-at l = (k : ℕ) (d : Row) → k < l.at → (get_or l.rows k d).equal ≡ false → pos 0 ≤ℤ get_or l.values k (pos 0)
