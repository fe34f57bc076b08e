use Rattle.std.proofs.Common.{List, subst, sym, ◌∙◌, length, pos, false}
use Rattle.exact_lp.specs.declared.row.RowCell.{RowCell}
use Rattle.exact_lp.specs.Columns.{AreAscendingCells}
use Rattle.pattern_pricing.specs.Layout.{columns_of}
use Rattle.station_rows.specs.Rows.{pair_row_value}
use Rattle.station_rows.proofs.Covered.{Covers}
use Rattle.station_rows.proofs.Covering.{by_number, row_covered, pair_covers}
use Rattle.station_rows.proofs.row.pair_row.Goals as goal

pub invariant_of-result : goal.invariant_of-result
invariant_of-result c =
    let is = c.new.ensures ∙ c.in_ok-cells.ensures in
    let covers = pair_covers c.args.layout.now c.args.cut.now c.requires.order c.requires.second in
    record { ascending = subst AreAscendingCells (sym is) covers.ascending }

pub returns : goal.returns
returns c =
    let is = c.new.ensures ∙ c.in_ok-cells.ensures in
    let P : List RowCell → Type 0 = λ cells. Covers (by_number c.args.layout.now (pair_row_value c.args.cut.now)) 0 (length (columns_of c.args.layout.now)) cells in
    row_covered c.args.layout.now (pair_row_value c.args.cut.now) (pos 0) false c.new.result _ (subst P (sym is) (pair_covers c.args.layout.now c.args.cut.now c.requires.order c.requires.second))
