use Rattle.std.proofs.Common.{rules, arith, subst}
use Rattle.std.proofs.lemmas.List.{take_all}
use Rattle.std.proofs.lemmas.List.Elements.{All-more}
use Rattle.exact_lp.specs.declared.row.Row.{Row}
use Rattle.exact_lp.specs.Outcomes.{NamesBelow}
use Rattle.tests_programs.proofs.tests.programs.rows.name_below.Goals as goal

pub loop-row-preserved : goal.loop-row-preserved
loop-row-preserved c =
    let P : Row → Type 0 = λ row. NamesBelow c.args.count row in
    let here : P c.row-item.result = search rules in
    All-more P c.args.rows.now c.loop-row.row-index c.row-item.result c.loop-row-test.true c.loop-row.invariant (subst P c.row-item.is here)

pub returns : goal.returns
returns c = let e = take_all c.loop-row.row-index c.args.rows.now (omega arith) in λ _. rw e at c.loop-row.invariant
