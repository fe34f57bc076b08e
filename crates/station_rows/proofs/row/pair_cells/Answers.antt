use Rattle.std.proofs.Common.{◌++◌, ◌∙◌, ℕ, ℤ, List, ap, neg_ℤ, pos}
use Rattle.exact_lp.specs.declared.row.RowCell.{RowCell}
use Rattle.transport.specs.Coupling.{at}
use Rattle.pattern_pricing.specs.declared.column.Column.TheVariants.{LeftOut}
use Rattle.pattern_pricing.specs.Positions.{list_size}
use Rattle.station_rows.specs.Contents.{cell_at, kept_cell, train_cells}
use Rattle.station_rows.proofs.Pushed.{five_pushed}
use Rattle.station_rows.proofs.row.pair_cells.Goals as goal

pub returns : goal.returns
returns c =
    let l = c.args.layout.now in
    let cut = c.args.cut.now in
    let part : ℕ → List ℤ → List RowCell = λ train xs. train_cells c.args.layout.now train (λ place. neg_ℤ (at xs place)) (list_size c.args.layout.now train) in
    let first = cell_at l (LeftOut cut.first) (neg_ℤ cut.alpha_left) in
    let second = cell_at l (LeftOut cut.second) (neg_ℤ cut.beta_left) in
    let last : ℕ → List RowCell = λ n. kept_cell (record { column = n; value = pos 1 }) in
    let all : List ℤ → List ℤ → ℕ → List RowCell = λ xs ys n.
    part c.args.cut.now.first xs ++ part c.args.cut.now.second ys ++ cell_at c.args.layout.now (LeftOut c.args.cut.now.first) (neg_ℤ c.args.cut.now.alpha_left)
    ++ cell_at c.args.layout.now (LeftOut c.args.cut.now.second) (neg_ℤ c.args.cut.now.beta_left) ++ last n in
    five_pushed c.new-cells.result.items c.push_negated.new.cells.items c.push_negated-2.new.cells.items c.push_left.new.cells.items c.push_left-2.new.cells.items
    c.push_cell.new.cells.items (part cut.first c.as_slice.result.now) (part cut.second c.as_slice-2.result.now) first second (last c.number_of-column.result)
    c.new-cells.ensures.items c.in_ok-push_negated.ensures c.in_ok-push_negated-2.ensures c.in_ok-push_left.ensures c.in_ok-push_left-2.ensures c.in_ok-push_cell.ensures
    ∙ ap (λ xs. all xs c.as_slice-2.result.now c.number_of-column.result) c.as_slice.ensures
    ∙ ap (λ ys. all c.args.cut.now.alpha ys c.number_of-column.result) c.as_slice-2.ensures
    ∙ ap (λ n. all c.args.cut.now.alpha c.args.cut.now.beta n) c.number_of-column.ensures
