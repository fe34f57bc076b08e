use Rattle.std.proofs.Common.{rules, sym, get_or, pos, FitsSigned, Ok, Err}
use Rattle.std.specs.Int.{w128}
use Rattle.std.proofs.lemmas.Int.{to_z-of_z}
use Rattle.std.proofs.lemmas.List.Sorted.{answers_always}
use Rattle.exact_lp.specs.declared.point.ColumnWeight.{ColumnWeight}
use Rattle.station_rows.proofs.WeightSearch.{weight_searched}
use Rattle.station_rows.proofs.reading.weight_among.Goals as goal

pub returns-in-Ok : goal.returns-in-Ok
returns-in-Ok c =
    let facts = c.in-Ok.ensures in
    let d : ColumnWeight = record { column = 0; weight = pos 0 } in
    let fits : FitsSigned w128 (get_or c.args.weights.now c.in-Ok.at d).weight = search rules in
    let by_column = facts.position (λ (w : ColumnWeight). w.column) (answers_always _ _ _ (λ f a r g called. search rules)) in
    simp to_z-of_z (sym (weight_searched c.args.weights.now c.requires c.args.column (Ok c.in-Ok.at) facts.bound by_column d))

pub returns-in-Err : goal.returns-in-Err
returns-in-Err c =
    let facts = c.in-Err.ensures in
    let by_column = facts.position (λ (w : ColumnWeight). w.column) (answers_always _ _ _ (λ f a r g called. search rules)) in
    sym (weight_searched c.args.weights.now c.requires c.args.column (Err c.in-Err.field-0) facts.bound by_column)
