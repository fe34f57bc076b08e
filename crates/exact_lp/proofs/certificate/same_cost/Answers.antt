use Rattle.std.proofs.Common.{rules, FitsSigned}
use Rattle.std.specs.Int.{w128}
use Rattle.std.proofs.lemmas.Int.{to_z-of_z}
use Rattle.exact_lp.proofs.certificate.same_cost.Goals as goal

pub returns-clause-value : goal.returns-clause-value
returns-clause-value g c so =
    let f1 : FitsSigned w128 c.in_ok-cost.cost = search rules in
    let f2 : FitsSigned w128 c.in_ok-value.value = search rules in
    let f3 : FitsSigned w128 c.args.point.now.scale = search rules in
    let f4 : FitsSigned w128 c.args.duals.now.scale = search rules in
    let same = simp to_z-of_z at (c.same_fraction.ensures so) in
    let cost = rw c.as_slice.ensures at c.in_ok-cost.ensures.value in
    let value = rw (c.as_slice-2.ensures, c.as_slice-3.ensures) at c.in_ok-value.ensures.value in
    rw (cost, value) at same
