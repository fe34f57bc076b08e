use Rattle.std.proofs.Common.{ℕ, List, subst, sym, ◌∙◌}
use Rattle.pair_prices.specs.Plan.{Fits}
use Rattle.leaf_bounds.specs.Fixed.{IsLeafOfPlan}
use Rattle.leaf_bounds.proofs.FixedLemmas.{fixed_made, plan_fits}
use Rattle.leaf_bounds.proofs.fixed.fixed_leaf.Goals as goal

pub leaf_of_plan-requires : goal.leaf_of_plan-requires
leaf_of_plan-requires c =
    subst (Fits c.args.case.now) (sym (c.as_slice.ensures.value ∙ c.in_ok-plan.ensures))
    (plan_fits c.args.case.now c.args.allowed.now.lists c.requires.fits c.requires.one)

pub returns : goal.returns
returns c =
    fixed_made c.args.case.now c.args.allowed.now.lists c.requires.fits c.requires.one c.station-limits.ensures.limits c.in_ok-leaf.leaf
    (subst (λ (plan : List ℕ). IsLeafOfPlan c.args.case.now plan c.in_ok-leaf.leaf) (c.as_slice.ensures.value ∙ c.in_ok-plan.ensures) c.in_ok-leaf.ensures)
