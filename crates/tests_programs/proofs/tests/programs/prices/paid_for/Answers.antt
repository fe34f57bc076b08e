use Rattle.std.proofs.Common.{rules, arith, pos, FitsSigned, get_or, ◌<◌, length, ap, ◌∙◌}
use Rattle.std.specs.Int.{w128}
use Rattle.std.proofs.lemmas.Int.{to_z-of_z}
use Rattle.exact_lp.specs.declared.row.Row.{Row}
use Rattle.exact_lp.specs.Columns.{value_at}
use Rattle.exact_lp.proofs.Sums.{paid-drop, step}
use Rattle.tests_programs.proofs.tests.programs.prices.paid_for.Goals as goal

pub loop-i-preserved : goal.loop-i-preserved
loop-i-preserved c =
    let f0 : FitsSigned w128 (get_or c.args.values.now c.loop-i.i (pos 0)) = search rules in
    let f1 : FitsSigned w128 c.in_ok-total.total = search rules in
    let f2 : FitsSigned w128 c.in_ok-part.part = search rules in
    let f3 : FitsSigned w128 c.value.result = search rules in
    let part = rw (c.value.ensures ∙ ap (λ (r : Row). value_at r.cells c.args.column) c.index-rows-i.is) at (simp to_z-of_z at c.in_ok-part.ensures.value) in
    let total = simp to_z-of_z at c.in_ok-total.ensures.value in
    let inside : c.loop-i.i < length c.args.values.now = omega (arith, c.requires) in
    let more = paid-drop c.args.rows.now c.args.values.now c.args.column c.loop-i.i c.index-rows-i.result (pos 0) c.loop-i-test.true inside in
    record {
      value = simp to_z-of_z (step c.in_ok-total.total _ c.in_ok-part.part _ _ _ _ total c.loop-i.invariant.value part more);
      ledger = omega (arith, c.in_ok-part.ensures.ledger, c.in_ok-total.ensures.ledger, c.loop-i.invariant.ledger);
    }
