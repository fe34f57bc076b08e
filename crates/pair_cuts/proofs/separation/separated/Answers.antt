use Rattle.std.proofs.Common.{◌∙◌, ℤ, List, sym, ap, subst, arith, rules, ◌≤ℤ◌, ◌<ℤ◌}
use mir.Syntax.{w128}
use mir.Val.{SFits}
use Rattle.std.proofs.lemmas.Int.{ints, to_z-of_z}
use Rattle.patterns.specs.Weights.{choice_weights}
use Rattle.transport.specs.Coupling.{IsLeastCost}
use Rattle.pair_cuts.specs.Potentials.{ArePotentials}
use Rattle.pair_cuts.specs.Table.{AreChoiceWeights, AreThere, cost_at}
use Rattle.pair_cuts.proofs.Least.{choice_weights_are, met, violated}
use Rattle.pair_cuts.proofs.separation.separated.Goals as goal

pub least_value-requires : goal.least_value-requires
least_value-requires c =
    let v = c.args.costs.now in
    let w = c.args.weights.now in
    let left = c.deref.ensures.value ∙ c.in_ok-left.ensures ∙ ap (λ u. choice_weights w u.first) c.costs.view_is in
    let right = c.deref-2.ensures.value ∙ c.in_ok-right.ensures ∙ ap (λ u. choice_weights w u.second) c.costs.view_is in
    let P : List ℤ → Type 0 = λ l. AreChoiceWeights v l c.deref-2.result.now in
    let Q : List ℤ → Type 0 = λ r. AreChoiceWeights v (choice_weights w v.first) r in
    subst P (sym left) (subst Q (sym right) (choice_weights_are v (subst AreThere c.costs.view_is c.costs.invariant) w c.requires.weights c.requires.scale))

pub returns-then-least-pair_value : goal.returns-then-least-pair_value
returns-then-least-pair_value c =
    let v = c.args.costs.now in
    let w = c.args.weights.now in
    let least = c.in_ok-least.least in
    let left = c.deref.ensures.value ∙ c.in_ok-left.ensures ∙ ap (λ u. choice_weights w u.first) c.costs.view_is in
    let right = c.deref-2.ensures.value ∙ c.in_ok-right.ensures ∙ ap (λ u. choice_weights w u.second) c.costs.view_is in
    let P : List ℤ → Type 0 = λ l. IsLeastCost (cost_at v) l c.deref-2.result.now least in
    let Q : List ℤ → Type 0 = λ r. IsLeastCost (cost_at v) (choice_weights w v.first) r least in
    let found : SFits w128 least = search rules in
    let given : SFits w128 c.args.pair_value = search rules in
    let a = to_z-of_z w128 least found in
    let b = to_z-of_z w128 c.args.pair_value given in
    let within : least ≤ℤ c.args.pair_value = grind (arith, ints) in
    met v c.requires.limits (subst AreThere c.costs.view_is c.costs.invariant) w c.requires.weights c.args.pair_value least
    (subst Q right (subst P left c.in_ok-least.ensures)) within

pub small_potentials-requires-clause-weights : goal.small_potentials-requires-clause-weights
small_potentials-requires-clause-weights c =
    let v = c.args.costs.now in
    let w = c.args.weights.now in
    let left = c.deref-3.ensures.value ∙ c.in_ok-left.ensures ∙ ap (λ u. choice_weights w u.first) c.costs.view_is in
    let right = c.deref-4.ensures.value ∙ c.in_ok-right.ensures ∙ ap (λ u. choice_weights w u.second) c.costs.view_is in
    let P : List ℤ → Type 0 = λ l. AreChoiceWeights v l c.deref-4.result.now in
    let Q : List ℤ → Type 0 = λ r. AreChoiceWeights v (choice_weights w v.first) r in
    subst P (sym left) (subst Q (sym right) (choice_weights_are v (subst AreThere c.costs.view_is c.costs.invariant) w c.requires.weights c.requires.scale))

pub returns : goal.returns
returns c =
    let v = c.args.costs.now in
    let w = c.args.weights.now in
    let least = c.in_ok-least.least in
    let coupled = c.in_ok-coupled.coupled in
    let left = c.deref.ensures.value ∙ c.in_ok-left.ensures ∙ ap (λ u. choice_weights w u.first) c.costs.view_is in
    let right = c.deref-2.ensures.value ∙ c.in_ok-right.ensures ∙ ap (λ u. choice_weights w u.second) c.costs.view_is in
    let lefts = c.deref-3.ensures.value ∙ c.in_ok-left.ensures ∙ ap (λ u. choice_weights w u.first) c.costs.view_is in
    let rights = c.deref-4.ensures.value ∙ c.in_ok-right.ensures ∙ ap (λ u. choice_weights w u.second) c.costs.view_is in
    let P : List ℤ → Type 0 = λ l. IsLeastCost (cost_at v) l c.deref-2.result.now least in
    let Q : List ℤ → Type 0 = λ r. IsLeastCost (cost_at v) (choice_weights w v.first) r least in
    let R : List ℤ → Type 0 = λ l. ArePotentials (cost_at v) l c.deref-4.result.now least coupled.alpha coupled.beta in
    let S : List ℤ → Type 0 = λ r. ArePotentials (cost_at v) (choice_weights w v.first) r least coupled.alpha coupled.beta in
    let found : SFits w128 least = search rules in
    let given : SFits w128 c.args.pair_value = search rules in
    let a = to_z-of_z w128 least found in
    let b = to_z-of_z w128 c.args.pair_value given in
    let T : ℤ → Type 0 = λ z. ArePotentials (cost_at v) c.deref-3.result.now c.deref-4.result.now z coupled.alpha coupled.beta in
    let past : c.args.pair_value <ℤ least = grind (arith, ints) in
    violated v c.requires.limits (subst AreThere c.costs.view_is c.costs.invariant) w c.requires.weights c.args.pair_value least
    (subst Q right (subst P left c.in_ok-least.ensures))
    coupled.alpha coupled.beta (subst S rights (subst R lefts (subst T a c.in_ok-coupled.ensures)))
    c.cut_of.result (c.cut_of.ensures.is_first ∙ ap (λ u. u.first) c.costs.view_is) (c.cut_of.ensures.is_second ∙ ap (λ u. u.second) c.costs.view_is)
    c.cut_of.ensures.alpha c.cut_of.ensures.beta past
