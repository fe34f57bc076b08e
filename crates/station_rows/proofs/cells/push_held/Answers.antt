use Rattle.std.proofs.Common.{ℕ, List, refl}
use Rattle.exact_lp.specs.declared.row.RowCell.{RowCell}
use Rattle.pattern_pricing.specs.Positions.{list_size}
use Rattle.station_rows.specs.Contents.{held_value, train_cells}
use Rattle.station_rows.proofs.Pushed.{pushed_more}
use Rattle.station_rows.proofs.cells.push_held.Goals as goal

pub loop-train-preserved : goal.loop-train-preserved
loop-train-preserved c =
    let part : ℕ → List RowCell = λ train. train_cells c.args.layout.now train (held_value c.args.case.now c.args.layout.now c.args.cut.now.platform c.args.cut.now.minute train) (list_size c.args.layout.now train) in
    pushed_more part c.loop-train.train c.args.cells.now.items c.loop-train.cells.items c.push_held_of.new.cells.items (part c.loop-train.train)
    c.loop-train.invariant c.in_ok-push_held_of.ensures refl
