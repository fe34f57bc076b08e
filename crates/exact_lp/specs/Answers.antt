-- When an engine may answer without an exact end.
use Rattle.std.specs.Prelude.{◌≡◌, ℕ, ◌+◌, ◌*◌, ◌<◌, ◌≤◌, ◌^◌, pos, ◌<ℤ◌}
use Rattle.exact_lp.specs.declared.answer.WeakCause.{WeakCause}
use Rattle.exact_lp.specs.declared.answer.WeakCause.TheVariants.{Left, Pivots, Rounds, Cells, Scale}
use Rattle.exact_lp.specs.declared.answer.Limits.{Limits}
use Rattle.ratio.specs.Ledger.{Raised}

-- the limits, how many rows and columns the table can come to have at most, and the ledger before and after allow the cause
abbrev pub MayCause : Limits → ℕ → ℕ → ℕ → ℕ → WeakCause → Type 0
MayCause limits rows columns old new Left = Raised old new
MayCause limits rows columns old new (Pivots n) = n ≡ limits.pivots
MayCause limits rows columns old new (Rounds n) = n ≡ limits.rounds
MayCause limits rows columns old new (Cells n) = (limits.cells < n) × (n ≤ (rows + 1) * (columns + rows + 2))
MayCause limits rows columns old new (Scale n) = pos (10 ^ 24) <ℤ n
