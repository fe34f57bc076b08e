use Rattle.std.proofs.Common.{rules, sym, get_or, pos, FitsSigned, Ok, Err}
use Rattle.std.specs.Int.{w128}
use Rattle.std.proofs.lemmas.Int.{to_z-of_z}
use Rattle.std.proofs.lemmas.List.Sorted.{answers_always}
use Rattle.exact_lp.specs.declared.row.RowCell.{RowCell}
use Rattle.exact_lp.proofs.Cells.{value_searched}
use Rattle.exact_lp.proofs.row.value_among.Goals as goal

pub returns-in-Ok : goal.returns-in-Ok
returns-in-Ok c =
    let facts = c.in-Ok.ensures in
    let d : RowCell = record { column = 0; value = pos 0 } in
    let fits : FitsSigned w128 (get_or c.args.cells.now c.in-Ok.at d).value = search rules in
    let by_column = facts.position (λ (cell : RowCell). cell.column) (answers_always _ _ _ (λ f a r g called. search rules)) in
    simp to_z-of_z (sym (value_searched c.args.cells.now c.requires c.args.column (Ok c.in-Ok.at) facts.bound by_column d))

pub returns-in-Err : goal.returns-in-Err
returns-in-Err c =
    let facts = c.in-Err.ensures in
    let by_column = facts.position (λ (cell : RowCell). cell.column) (answers_always _ _ _ (λ f a r g called. search rules)) in
    sym (value_searched c.args.cells.now c.requires c.args.column (Err c.in-Err.field-0) facts.bound by_column)
