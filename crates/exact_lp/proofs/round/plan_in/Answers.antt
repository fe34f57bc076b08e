use Rattle.std.proofs.Common.{length}
use Rattle.exact_lp.proofs.Ray.{improving_has_row}
use Rattle.exact_lp.proofs.round.plan_in.Goals as goal

pub unreachable-requires : goal.unreachable-requires
unreachable-requires c =
    let table = c.args.table.now in
    improving_has_row table.rows.items table.cost (length table.variables.items) table.basis.items table.spares.items c.args.variable c.requires.table c.requires.within
    record { improves = c.requires.improves; rowless = c.in-None.ensures.none }
