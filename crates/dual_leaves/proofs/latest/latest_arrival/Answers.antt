use Rattle.std.proofs.Common.{List, rules, refl, negsuc, get_or, length, ap, ◌∙◌, sym, subst, FitsSigned, to_z, arith}
use Rattle.std.specs.Int.{w32}
use Rattle.std.proofs.lemmas.Int.{to_z-of_z}
use Rattle.exact_lp.specs.declared.row.RowCell.{RowCell}
use Rattle.dual_leaves.specs.Latest.{arrival_or}
use Rattle.dual_leaves.proofs.Arrivals.{no_cell, IsLatestBelow, latest_none, latest_more, latest_all}
use Rattle.dual_leaves.proofs.latest.latest_arrival.Goals as goal

pub loop-cell-init : goal.loop-cell-init
loop-cell-init c = latest_none c.args.case.now c.args.layout.now c.as_slice-cells.result.now (negsuc 29) refl

pub loop-cell-preserved : goal.loop-cell-preserved
loop-cell-preserved c =
    let fits : FitsSigned w32 c.max-latest.result = search rules in
    let also : FitsSigned w32 c.arrival_or.result = search rules in
    let sum = simp to_z-of_z at c.max-latest.ensures.value in
    let found = c.column-column.result in
    let value = (get_or c.as_slice-cells.result.now c.loop-cell.cell-index no_cell).value in
    simp to_z-of_z
    (latest_more c.args.case.now c.args.layout.now c.as_slice-cells.result.now c.loop-cell.cell-index (to_z w32 c.loop-cell.latest-bits) c.arrival_or.result
    c.max-latest.result found c.loop-cell.invariant c.column-column.ensures.value c.column-column.ensures.there
    (c.arrival_or.ensures.value ∙ ap (λ ls. arrival_or c.args.case.now ls found value) (sym c.requires.same)) c.arrival_or.ensures.first c.arrival_or.ensures.last sum)

pub returns : goal.returns
returns c =
    let past = c.loop-cell-test.false in
    let most = c.loop-cell.auto.cell-index-end in
    let same = ap length c.as_slice-cells.ensures in
    latest_all c.args.case.now c.args.layout.now c.args.row.now c.loop-cell.cell-index (to_z w32 c.loop-cell.latest-bits) (omega (arith, past, same))
    (subst (λ (cells : List RowCell). IsLatestBelow c.args.case.now c.args.layout.now cells c.loop-cell.cell-index (to_z w32 c.loop-cell.latest-bits))
    c.as_slice-cells.ensures c.loop-cell.invariant) (omega (arith, most, same))
