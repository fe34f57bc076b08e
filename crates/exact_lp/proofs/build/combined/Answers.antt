use Rattle.std.proofs.Common.{rules, arith, FitsSigned, get_or, ap, ◌∙◌, ℤ, ◌*ℤ◌}
use Rattle.std.specs.Int.{w128}
use Rattle.std.proofs.lemmas.Int.{to_z-of_z}
use Rattle.ratio.specs.Cells.{cell_at}
use Rattle.exact_lp.specs.Places.{place_of}
use Rattle.exact_lp.proofs.Started.{combination-drop}
use Rattle.exact_lp.proofs.Sums.{step}
use Rattle.exact_lp.proofs.build.combined.Goals as goal

pub loop-at-preserved : goal.loop-at-preserved
loop-at-preserved c =
    let f0 : FitsSigned w128 c.value_or_zero-value.result = search rules in
    let f1 : FitsSigned w128 c.in_ok-total.total = search rules in
    let f2 : FitsSigned w128 c.in_ok-part.part = search rules in
    let part = simp to_z-of_z at c.in_ok-part.ensures.value in
    let total = simp to_z-of_z at c.in_ok-total.ensures.value in
    let more = combination-drop c.args.line.now c.args.spares.now c.args.values.now c.loop-at.at 0 c.loop-at-test.true in
    let value = ap (λ (z : ℤ). cell_at c.args.line.now (place_of (get_or c.args.spares.now c.loop-at.at 0)) *ℤ z) c.value_or_zero-value.ensures in
    record {
      so_far = simp to_z-of_z (step c.in_ok-total.total _ c.in_ok-part.part _ _ _ _ total c.loop-at.invariant.so_far (part ∙ value) more);
      ledger = omega (arith, c.in_ok-part.ensures.ledger, c.in_ok-total.ensures.ledger, c.loop-at.invariant.ledger);
    }
