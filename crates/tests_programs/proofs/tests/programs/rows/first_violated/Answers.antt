use Rattle.std.proofs.Common.{arith, subst}
use Rattle.std.proofs.lemmas.List.{take_all}
use Rattle.std.proofs.lemmas.List.Elements.{All-more}
use Rattle.exact_lp.specs.declared.row.Row.{Row}
use Rattle.exact_lp.specs.Programs.{Holds}
use Rattle.tests_programs.proofs.tests.programs.rows.first_violated.Goals as goal

pub loop-row-preserved : goal.loop-row-preserved
loop-row-preserved c =
    let P : Row → Type 0 = λ row. Holds row c.args.point.now in
    let here : P c.row-item.result = c.in_ok-holds.ensures.value.0 c.if-not-branch.false in
    record {
      so_far = All-more P c.args.rows.now c.loop-row.row-index c.row-item.result c.loop-row-test.true c.loop-row.invariant.so_far (subst P c.row-item.is here);
      ledger = omega (arith, c.in_ok-holds.ensures.ledger, c.loop-row.invariant.ledger);
    }

pub returns-clause-none : goal.returns-clause-none
returns-clause-none c = let e = take_all c.loop-row.row-index c.args.rows.now (omega arith) in rw e at c.loop-row.invariant.so_far
