use Rattle.std.proofs.Common.{pos, get_or, rules, FitsSigned}
use Rattle.std.specs.Int.{w128}
use Rattle.std.proofs.lemmas.Int.{to_z-of_z}
use Rattle.dual_ascent.proofs.TotalLemmas.{total_more}
use Rattle.dual_ascent.proofs.coupling.total_of.Goals as goal

pub loop-weight-preserved : goal.loop-weight-preserved
loop-weight-preserved c =
    let fits : FitsSigned w128 c.in_ok-sum.sum = search rules in
    let entry : FitsSigned w128 (get_or c.args.weights.now c.loop-weight.weight-index (pos 0)) = search rules in
    let got = simp to_z-of_z at c.in_ok-sum.ensures in
    simp to_z-of_z
    (total_more c.args.weights.now c.loop-weight.weight-index _ c.in_ok-sum.sum c.loop-weight-test.true c.loop-weight.invariant got.1)
