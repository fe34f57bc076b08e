use Rattle.std.proofs.Common.{arith, ◌<◌, pos, get_or}
use Rattle.std.proofs.lemmas.Int.{ints, by_lt_z}
use Rattle.exact_lp.specs.Programs.{paid_by_rows}
use Rattle.exact_lp.proofs.Unnamed.{unpaid_behind, unpaid_is_dear}
use Rattle.tests_programs.proofs.tests.programs.prices.PricesColumns.improving.Goals as goal

pub returns-clause-none : goal.returns-clause-none
returns-clause-none c column inside =
    by_lt_z (pos column) (pos c.loop-column.column)
    (λ l. c.loop-column.invariant.so_far column (omega (arith, ints)))
    (λ l.
    let behind : c.last_named-last.result < column = omega (arith, ints, inside, c.saturating_add.ensures, c.max.ensures, c.min-end.ensures, c.loop-column-test.false, c.requires.le) in
    let duals = c.args.duals.now in
    let named = rw c.as_slice.ensures at c.last_named-last.ensures in
    unpaid_is_dear duals.scale (paid_by_rows duals.rows duals.values column) (get_or c.args.self.now.listed column c.args.self.now.rest) duals.above
    (unpaid_behind c.last_named-last.result column duals.rows duals.values named behind))
