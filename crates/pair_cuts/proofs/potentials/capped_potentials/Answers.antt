use Rattle.std.proofs.Common.{◌≡◌, ℤ, sym, ap, to_z, subst, arith, rules, ◌∙◌}
use mir.Syntax.{w128}
use mir.Val.{SFits}
use Rattle.std.proofs.lemmas.Int.{to_z-of_z}
use Rattle.transport.specs.Coupling.{IsLeastCost}
use Rattle.pair_cuts.specs.Table.{capped_at, cost_at}
use Rattle.pair_cuts.proofs.Least.{potentials}
use Rattle.pair_cuts.proofs.potentials.capped_potentials.Goals as goal

pub returns : goal.returns
returns c =
    let low = capped_at c.args.costs.now c.args.cap in
    let P : ℤ → Type 0 = λ z. IsLeastCost low c.args.left.now c.args.right.now z in
    let found : SFits w128 c.in-Ok.value = search rules in
    let given : SFits w128 c.args.least = search rules in
    let same : c.in-Ok.value ≡ c.args.least = sym (to_z-of_z w128 c.in-Ok.value found) ∙ ap (to_z w128) c.if-value-least.false ∙ to_z-of_z w128 c.args.least given in
    potentials low (cost_at c.args.costs.now) (λ i j. omega arith) c.args.left.now c.args.right.now
    c.in-Ok-couple.coupled.cells c.in-Ok-couple.coupled.alpha c.in-Ok-couple.coupled.beta c.args.least
    c.in-Ok-couple.ensures.coupled (subst P same c.in-Ok.ensures.least)
