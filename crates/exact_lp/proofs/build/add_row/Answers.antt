use Rattle.std.proofs.Common.{arith, length}
use Rattle.exact_lp.proofs.Started.{row_table}
use Rattle.exact_lp.proofs.build.add_row.Goals as goal

pub returns-clause-table : goal.returns-clause-table
returns-clause-table c =
    let table = c.add_spare.new.self in
    let new = c.in_ok-spare.ensures.spare in
    row_table table.rows.items table.cost (length table.variables.items) table.basis.items table.spares.items c.in_ok-spare.ensures.table
    c.in_ok-spare.spare c.in_ok-line.line (omega (arith, new.last)) new.alone new.unpriced c.in_ok-line.ensures.line _ _ c.in_ok-push.ensures.items c.in_ok-push-2.ensures.items
