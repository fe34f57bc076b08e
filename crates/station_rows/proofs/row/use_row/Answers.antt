use Rattle.std.proofs.Common.{List, subst, sym, ◌∙◌, length, pos, neg_ℤ, false}
use Rattle.exact_lp.specs.declared.row.RowCell.{RowCell}
use Rattle.exact_lp.specs.Columns.{AreAscendingCells}
use Rattle.pattern_pricing.specs.Layout.{columns_of}
use Rattle.station_rows.specs.Rows.{use_value}
use Rattle.station_rows.proofs.Covered.{Covers}
use Rattle.station_rows.proofs.Covering.{by_number, row_covered, use_covers}
use Rattle.station_rows.proofs.row.use_row.Goals as goal

pub invariant_of-result : goal.invariant_of-result
invariant_of-result c =
    let is = c.new.ensures ∙ c.in_ok-cells.ensures in
    let covers = use_covers c.args.layout.now c.args.platform c.requires in
    record { ascending = subst AreAscendingCells (sym is) covers.ascending }

pub returns : goal.returns
returns c =
    let is = c.new.ensures ∙ c.in_ok-cells.ensures in
    let P : List RowCell → Type 0 = λ cells. Covers (by_number c.args.layout.now (use_value c.args.platform)) 0 (length (columns_of c.args.layout.now)) cells in
    row_covered c.args.layout.now (use_value c.args.platform) (neg_ℤ (pos 1)) false c.new.result _ (subst P (sym is) (use_covers c.args.layout.now c.args.platform c.requires))
