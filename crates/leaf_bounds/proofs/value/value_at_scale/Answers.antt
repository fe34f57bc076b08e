use Rattle.std.proofs.Common.{◌∙◌, arith, ◌-ℤ◌}
use Rattle.std.proofs.lemmas.Int.{ints}
use Rattle.leaf_bounds.specs.Leaf.{value_of}
use Rattle.leaf_bounds.proofs.WideLemmas.{difference_is}
use Rattle.leaf_bounds.proofs.value.value_at_scale.Goals as goal

pub returns-clause-value : goal.returns-clause-value
unfolding value_of
returns-clause-value c =
    let u = c.u_total.ensures.value in
    let excess = c.excess_total.ensures.value in
    let a = c.u_total.ensures.size in
    let b = c.excess_total.ensures.size in
    difference_is c.u_total.result c.excess_total.result (omega (arith, a)) (omega (arith, b)) (omega (arith, ints, a, b))
    ∙ (λ i. u i -ℤ excess i)
