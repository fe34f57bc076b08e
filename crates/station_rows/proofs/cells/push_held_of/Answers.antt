use Rattle.std.proofs.Common.{◌∙◌, ℕ, ℤ, List, FitsSigned, ap, rules}
use Rattle.std.specs.Int.{w128}
use Rattle.std.proofs.lemmas.Int.{to_z-of_z}
use Rattle.exact_lp.specs.declared.row.RowCell.{RowCell}
use Rattle.pattern_pricing.specs.Layout.{weight_column}
use Rattle.pattern_pricing.specs.Positions.{position}
use Rattle.station_rows.specs.Contents.{cell_at, held_value, kept_cell}
use Rattle.station_rows.proofs.Pushed.{pushed_more}
use Rattle.station_rows.proofs.cells.push_held_of.Goals as goal

pub loop-place-preserved : goal.loop-place-preserved
loop-place-preserved c =
    let value : ℕ → ℤ = held_value c.args.case.now c.args.layout.now c.args.cut.now.platform c.args.cut.now.minute c.args.train in
    let part : ℕ → List RowCell = λ place. cell_at c.args.layout.now (weight_column c.args.train place) (value place) in
    let cell : ℕ → ℤ → RowCell = λ column z. record { column = column; value = z } in
    let fits : FitsSigned w128 c.held_value-value.result = search rules in
    let more = simp to_z-of_z at c.in_ok-push_cell.ensures in
    pushed_more part c.loop-place.place c.args.cells.now.items c.loop-place.cells.items c.push_cell.new.cells.items (kept_cell (cell c.number_of-column.result c.held_value-value.result))
    c.loop-place.invariant more
    (ap (λ column. kept_cell (cell column c.held_value-value.result)) c.number_of-column.ensures
    ∙ ap (λ z. kept_cell (cell (position c.args.layout.now (weight_column c.args.train c.loop-place.place)) z)) c.held_value-value.ensures)
