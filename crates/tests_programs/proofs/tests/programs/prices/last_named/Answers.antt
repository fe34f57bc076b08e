use Rattle.std.proofs.Common.{arith, ◌≤◌, subst}
use Rattle.std.specs.Prelude.{All}
use Rattle.std.proofs.lemmas.List.{take_all}
use Rattle.std.proofs.lemmas.List.Elements.{All-more}
use Rattle.exact_lp.specs.declared.row.Row.{Row}
use Rattle.tests_programs.proofs.tests.programs.prices.last_named.Goals as goal

pub loop-row-preserved : goal.loop-row-preserved
loop-row-preserved c =
    let P : Row → Type 0 = λ row. All (λ cell. cell.column ≤ c.last_among-last.result) row.cells in
    All-more P c.args.rows.now c.loop-row.row-index c.row-item.result c.loop-row-test.true
    (λ k d h j e i. omega (arith, c.last_among-last.ensures.kept, c.loop-row.invariant k d h j e i))
    (subst P c.row-item.is (rw c.as_slice.ensures at c.last_among-last.ensures.last))

pub returns : goal.returns
returns c = let e = take_all c.loop-row.row-index c.args.rows.now (omega arith) in rw e at c.loop-row.invariant
