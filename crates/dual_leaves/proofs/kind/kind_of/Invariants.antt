use Rattle.std.proofs.Common.{◌≡◌, ℕ, ◌<◌, get_or, None, pos}
use Rattle.pattern_pricing.specs.declared.column.Column.{Column}
use Rattle.pattern_pricing.specs.Layout.{IsColumn}
use Rattle.pattern_pricing.specs.Positions.{position}
use Rattle.dual_leaves.specs.Kinds.{kind_at}
use Rattle.dual_leaves.proofs.kind.kind_of.Given as goal

abbrev pub invariant-loop-cell : goal.invariant-loop-cell
invariant-loop-cell l =
    (i : ℕ) (column : Column) → i < l.cell-index → IsColumn l.layout column
    → (get_or l.cells i (record { column = 0; value = pos 0 })).column ≡ position l.layout column
    → kind_at l.row.equal column (get_or l.cells i (record { column = 0; value = pos 0 })).value ≡ None
