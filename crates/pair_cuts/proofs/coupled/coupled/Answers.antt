use Rattle.std.proofs.Common.{◌∙◌, ℤ, List, ap, subst, sym}
use Rattle.patterns.specs.Weights.{choice_weights}
use Rattle.transport.specs.Coupling.{IsShownLeast}
use Rattle.pair_cuts.specs.Table.{AreChoiceWeights, AreThere, cost_at}
use Rattle.pair_cuts.proofs.Least.{choice_weights_are}
use Rattle.pair_cuts.proofs.Tabled.{least_table_is}
use Rattle.pair_cuts.proofs.coupled.coupled.Goals as goal

pub cells_of-requires : goal.cells_of-requires
cells_of-requires c =
    let v = c.args.costs.now in
    let w = c.args.weights.now in
    let left = c.deref.ensures.value ∙ c.in_ok-left.ensures ∙ ap (λ u. choice_weights w u.first) c.costs.view_is in
    let right = c.deref-2.ensures.value ∙ c.in_ok-right.ensures ∙ ap (λ u. choice_weights w u.second) c.costs.view_is in
    let P : List ℤ → Type 0 = λ l. AreChoiceWeights v l c.deref-2.result.now in
    let Q : List ℤ → Type 0 = λ r. AreChoiceWeights v (choice_weights w v.first) r in
    subst P (sym left) (subst Q (sym right) (choice_weights_are v (subst AreThere c.costs.view_is c.costs.invariant) w c.requires.weights c.requires.scale))

pub returns : goal.returns
returns c =
    let v = c.args.costs.now in
    let w = c.args.weights.now in
    let cells = c.in_ok-cells.cells in
    let there = subst AreThere c.costs.view_is c.costs.invariant in
    let left = c.deref.ensures.value ∙ c.in_ok-left.ensures ∙ ap (λ u. choice_weights w u.first) c.costs.view_is in
    let right = c.deref-2.ensures.value ∙ c.in_ok-right.ensures ∙ ap (λ u. choice_weights w u.second) c.costs.view_is in
    let P : List ℤ → Type 0 = λ l. IsShownLeast (cost_at v) l c.deref-2.result.now cells in
    let Q : List ℤ → Type 0 = λ r. IsShownLeast (cost_at v) (choice_weights w v.first) r cells in
    let shown = subst Q right (subst P left c.in_ok-cells.ensures) in
    let weights = choice_weights_are v there w c.requires.weights c.requires.scale in
    least_table_is v c.requires.limits there w c.requires.weights weights.rows weights.columns cells shown.alpha shown.beta shown.least
