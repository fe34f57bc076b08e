use Rattle.std.proofs.Common.{ℕ, List, ap, pos}
use Rattle.exact_lp.specs.declared.row.RowCell.{RowCell}
use Rattle.pattern_pricing.specs.Layout.{weight_column}
use Rattle.station_rows.specs.Contents.{cell_at, kept_cell}
use Rattle.station_rows.proofs.Pushed.{pushed_more}
use Rattle.station_rows.proofs.cells.push_ones.Goals as goal

pub loop-place-preserved : goal.loop-place-preserved
loop-place-preserved c =
    let part : ℕ → List RowCell = λ place. cell_at c.args.layout.now (weight_column c.args.train place) (pos 1) in
    let cell : ℕ → RowCell = λ column. record { column = column; value = pos 1 } in
    pushed_more part c.loop-place.place c.args.cells.now.items c.loop-place.cells.items c.push_cell.new.cells.items (kept_cell (cell c.number_of-column.result))
    c.loop-place.invariant c.in_ok-push_cell.ensures (ap (λ column. kept_cell (cell column)) c.number_of-column.ensures)
