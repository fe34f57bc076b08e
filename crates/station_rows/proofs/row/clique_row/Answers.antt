use Rattle.std.proofs.Common.{List, subst, sym, ◌∙◌, length, pos, false}
use Rattle.exact_lp.specs.declared.row.RowCell.{RowCell}
use Rattle.exact_lp.specs.Columns.{AreAscendingCells}
use Rattle.pattern_pricing.specs.Layout.{columns_of}
use Rattle.station_rows.specs.Rows.{clique_value}
use Rattle.station_rows.proofs.Covered.{Covers}
use Rattle.station_rows.proofs.Covering.{by_number, row_covered, clique_covers}
use Rattle.station_rows.proofs.row.clique_row.Goals as goal

pub invariant_of-result : goal.invariant_of-result
invariant_of-result c =
    let is = c.new.ensures ∙ c.in_ok-cells.ensures in
    let covers = clique_covers c.args.layout.now c.args.cut.now.platform c.requires.platform c.args.case.now c.args.cut.now.minute in
    record { ascending = subst AreAscendingCells (sym is) covers.ascending }

pub returns : goal.returns
returns c =
    let is = c.new.ensures ∙ c.in_ok-cells.ensures in
    let P : List RowCell → Type 0 = λ cells. Covers (by_number c.args.layout.now (clique_value c.args.case.now c.args.layout.now.lists c.args.cut.now.platform c.args.cut.now.minute)) 0 (length (columns_of c.args.layout.now)) cells in
    row_covered c.args.layout.now (clique_value c.args.case.now c.args.layout.now.lists c.args.cut.now.platform c.args.cut.now.minute) (pos 0) false c.new.result _ (subst P (sym is) (clique_covers c.args.layout.now c.args.cut.now.platform c.requires.platform c.args.case.now c.args.cut.now.minute))
