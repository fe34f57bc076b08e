use Rattle.std.proofs.Common.{List, subst, sym, ◌∙◌, length, pos, true}
use Rattle.exact_lp.specs.declared.row.RowCell.{RowCell}
use Rattle.exact_lp.specs.Columns.{AreAscendingCells}
use Rattle.pattern_pricing.specs.Layout.{columns_of}
use Rattle.station_rows.specs.Rows.{train_value}
use Rattle.station_rows.proofs.Covered.{Covers}
use Rattle.station_rows.proofs.Covering.{by_number, row_covered, opening_covers}
use Rattle.station_rows.proofs.row.train_row.Goals as goal

pub invariant_of-result : goal.invariant_of-result
invariant_of-result c =
    let is = c.new.ensures ∙ c.in_ok-cells.ensures in
    let covers = opening_covers c.args.layout.now c.args.train c.requires in
    record { ascending = subst AreAscendingCells (sym is) covers.ascending }

pub returns : goal.returns
returns c =
    let is = c.new.ensures ∙ c.in_ok-cells.ensures in
    let P : List RowCell → Type 0 = λ cells. Covers (by_number c.args.layout.now (train_value c.args.train)) 0 (length (columns_of c.args.layout.now)) cells in
    row_covered c.args.layout.now (train_value c.args.train) (pos 1) true c.new.result _ (subst P (sym is) (opening_covers c.args.layout.now c.args.train c.requires))
