use Rattle.std.proofs.Common.{rules, arith, FitsSigned, get_or, ◌<◌, length}
use Rattle.std.specs.Int.{w128}
use Rattle.std.proofs.lemmas.Int.{to_z-of_z}
use Rattle.exact_lp.proofs.Sums.{opening-drop, step}
use Rattle.tests_programs.proofs.tests.programs.rows.met_by_opening.Goals as goal

pub loop-i-preserved : goal.loop-i-preserved
loop-i-preserved c =
    let f0 : FitsSigned w128 (get_or c.args.opening.now c.loop-i.i c.index-opening-i.result).least = search rules in
    let f1 : FitsSigned w128 c.in_ok-total.total = search rules in
    let f2 : FitsSigned w128 c.in_ok-part.part = search rules in
    let f3 : FitsSigned w128 c.value.result = search rules in
    let part = rw c.value.ensures at (simp to_z-of_z at c.in_ok-part.ensures.value) in
    let total = simp to_z-of_z at c.in_ok-total.ensures.value in
    let inside : c.loop-i.i < length c.args.own.now = omega (arith, c.requires) in
    let more = opening-drop c.args.row.now.cells c.args.opening.now c.args.own.now c.loop-i.i c.index-opening-i.result 0 c.loop-i-test.true inside in
    simp to_z-of_z (step c.in_ok-total.total _ c.in_ok-part.part _ _ _ _ total c.loop-i.invariant part more)
