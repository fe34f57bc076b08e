use Rattle.std.proofs.Common.{◌∙◌, ℕ, ℤ, List, FitsSigned, ap, neg_ℤ, rules}
use Rattle.std.specs.Int.{w128}
use Rattle.std.proofs.lemmas.Int.{to_z-of_z}
use Rattle.transport.specs.Coupling.{at}
use Rattle.exact_lp.specs.declared.row.RowCell.{RowCell}
use Rattle.pattern_pricing.specs.Layout.{weight_column}
use Rattle.pattern_pricing.specs.Positions.{position}
use Rattle.station_rows.specs.Contents.{cell_at, kept_cell}
use Rattle.station_rows.proofs.Pushed.{pushed_more}
use Rattle.station_rows.proofs.cells.push_negated.Goals as goal

pub loop-place-preserved : goal.loop-place-preserved
loop-place-preserved c =
    let part : ℕ → List RowCell = λ place. cell_at c.args.layout.now (weight_column c.args.train place) (neg_ℤ (at c.args.numbers.now place)) in
    let cell : ℕ → ℤ → RowCell = λ column z. record { column = column; value = z } in
    let fits : FitsSigned w128 c.negated-value.result = search rules in
    let more = simp to_z-of_z at c.in_ok-push_cell.ensures in
    pushed_more part c.loop-place.place c.args.cells.now.items c.loop-place.cells.items c.push_cell.new.cells.items (kept_cell (cell c.number_of-column.result c.negated-value.result))
    c.loop-place.invariant more
    (ap (λ column. kept_cell (cell column c.negated-value.result)) c.number_of-column.ensures
    ∙ ap (λ z. kept_cell (cell (position c.args.layout.now (weight_column c.args.train c.loop-place.place)) z)) c.negated-value.ensures)
