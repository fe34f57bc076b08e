use Rattle.std.proofs.Common.{sym, ◌∙◌, pos}
use Rattle.exact_lp.specs.declared.row.RowCell.{RowCell}
use Rattle.dual_leaves.proofs.Telling.{told_from, none_more, none_from}
use Rattle.dual_leaves.proofs.kind.kind_of.Goals as goal

pub returns-in-Some-clause-some : goal.returns-in-Some-clause-some
returns-in-Some-clause-some c =
    told_from c.args.layout.now c.args.row.now c.as_slice-cells.result.now c.as_slice-cells.ensures c.loop-cell.cell-index (record { column = 0; value = pos 0 })
    c.column-column.result c.in-Some.kind c.loop-cell-test.true c.column-column.ensures.value c.column-column.ensures.there
    (sym c.kind_at.ensures ∙ c.in-Some.is)

pub loop-cell-preserved : goal.loop-cell-preserved
loop-cell-preserved c =
    let d : RowCell = record { column = 0; value = pos 0 } in
    none_more c.args.layout.now c.args.row.now.equal c.as_slice-cells.result.now c.loop-cell.cell-index d c.column-column.result c.loop-cell.invariant
    c.column-column.ensures.value (sym c.kind_at.ensures ∙ c.in_default.is)

pub returns-clause-none : goal.returns-clause-none
returns-clause-none c =
    none_from c.args.layout.now c.args.row.now c.as_slice-cells.result.now c.as_slice-cells.ensures c.loop-cell.cell-index c.loop-cell-test.false c.loop-cell.invariant
