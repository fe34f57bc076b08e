-- A fact for each outcome of the engine, and the rows that it takes.
use Rattle.std.specs.Prelude.{ℕ, ◌<◌, ◌^◌, All, pos, ◌≤ℤ◌}
use Rattle.exact_lp.specs.declared.row.Row.{Row}
use Rattle.exact_lp.specs.declared.answer.WeakCause.{WeakCause}
use Rattle.exact_lp.specs.declared.answer.Solved.{Solved}
use Rattle.exact_lp.specs.declared.answer.Outcome.{Outcome}
use Rattle.exact_lp.specs.declared.answer.Outcome.TheVariants.{Exact, Weak}

abbrev pub IfExact : Outcome → (Solved → Type 0) → Type 0
IfExact (Exact solved) P = P solved
IfExact (Weak cause) P = Unit {0}

abbrev pub IfWeak : Outcome → (WeakCause → Type 0) → Type 0
IfWeak (Exact solved) P = Unit {0}
IfWeak (Weak cause) P = P cause

-- the row names no column from the count on
abbrev pub NamesBelow : ℕ → Row → Type 0
NamesBelow count row = All (λ cell. cell.column < count) row.cells

-- both scales are at most 10^24
abbrev pub AreScalesBounded : Solved → Type 0
AreScalesBounded solved = (solved.point.scale ≤ℤ pos (10 ^ 24)) × (solved.duals.scale ≤ℤ pos (10 ^ 24))
