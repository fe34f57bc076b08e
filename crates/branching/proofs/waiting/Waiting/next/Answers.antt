use Rattle.std.proofs.Common.{◌≡◌, true, false, ℤ, sym, subst, rules}
use Rattle.std.proofs.lemmas.Int.{to_z-of_z}
use mir.Syntax.{w128}
use mir.Val.{SFits}
use Rattle.leaf_bounds.specs.declared.tree.Bound.TheVariants.{AtLeast}
use Rattle.branching.specs.Known.{is_settled}
use Rattle.branching.proofs.KeyLemmas.{none_next, is_next}
use Rattle.branching.proofs.waiting.Waiting.next.Goals as goal

pub returns-then-is_settled : goal.returns-then-is_settled
returns-then-is_settled c =
    let fits : SFits w128 c.in_ok-least.field-0.now.0.bound = search rules in
    none_next c.args.best.now c.in_ok-least.field-0.now _ c.args.self.now c.self.view_is (c.in_ok-least.ensures.greatest c.self.invariant)
    (subst (λ (n : ℤ). is_settled c.args.best.now (AtLeast n) ≡ true) (to_z-of_z w128 c.in_ok-least.field-0.now.0.bound fits) (sym c.if-is_settled.ensures))

pub returns : goal.returns
returns c =
    let fits : SFits w128 c.in_ok-least.field-0.now.0.bound = search rules in
    is_next c.args.best.now c.in_ok-least.field-0.now c.in_ok-key.field-0 _ _ c.args.self.now c.self.view_is c.in_ok-least.ensures.item.3.0
    c.in_ok-least.ensures.lookup c.in_ok-key.ensures.top c.in_ok-key.ensures.permutation (c.in_ok-key.ensures.below_top c.self.invariant)
    (subst (λ (n : ℤ). is_settled c.args.best.now (AtLeast n) ≡ false) (to_z-of_z w128 c.in_ok-least.field-0.now.0.bound fits) (sym c.if-is_settled.ensures))
