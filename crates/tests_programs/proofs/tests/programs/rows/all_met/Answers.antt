use Rattle.std.proofs.Common.{rules, arith, ◌≡◌, subst, false, ◌≤ℤ◌}
use Rattle.std.proofs.lemmas.List.{take_all}
use Rattle.std.proofs.lemmas.List.Elements.{All-more}
use Rattle.exact_lp.specs.declared.row.Row.{Row}
use Rattle.exact_lp.specs.Sources.{opening_sum}
use Rattle.tests_programs.proofs.tests.programs.rows.all_met.Goals as goal

pub loop-row-preserved : goal.loop-row-preserved
loop-row-preserved c =
    let P : Row → Type 0 = λ row. row.equal ≡ false in
    let Q : Row → Type 0 = λ row. row.least ≤ℤ opening_sum row.cells c.args.opening.now c.args.own.now in
    let above : P c.row-item.result = search rules in
    let met : Q c.row-item.result = search rules in
    record {
      above = All-more P c.args.rows.now c.loop-row.row-index c.row-item.result c.loop-row-test.true c.loop-row.invariant.above (subst P c.row-item.is above);
      met = All-more Q c.args.rows.now c.loop-row.row-index c.row-item.result c.loop-row-test.true c.loop-row.invariant.met (subst Q c.row-item.is met);
    }

pub returns-clause-above : goal.returns-clause-above
returns-clause-above c = let e = take_all c.loop-row.row-index c.args.rows.now (omega arith) in λ _. rw e at c.loop-row.invariant.above

pub returns-clause-met : goal.returns-clause-met
returns-clause-met c = let e = take_all c.loop-row.row-index c.args.rows.now (omega arith) in λ _. rw e at c.loop-row.invariant.met
