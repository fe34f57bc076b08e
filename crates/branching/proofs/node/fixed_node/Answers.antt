use Rattle.std.proofs.Common.{◌≡◌, true, sym, ap, ◌∙◌, subst}
use Rattle.pair_prices.specs.Plan.{Fits}
use Rattle.leaf_bounds.specs.Shown.{bound_of_leaf}
use Rattle.leaf_bounds.proofs.FixedLemmas.{plan_fits}
use Rattle.branching.specs.Bounds.{IsNoLess}
use Rattle.branching.specs.Known.{is_settled}
use Rattle.branching.proofs.BoundsLemmas.{fixed_is, fixed_above, own_settled}
use Rattle.branching.proofs.node.fixed_node.Goals as goal

pub priced-plan-requires : goal.priced-plan-requires
priced-plan-requires c =
    subst (Fits c.args.case.now) (sym c.in_ok-plan.ensures) (plan_fits c.args.case.now c.args.allowed.lists c.requires.fits c.requires.one)

pub returns-clause-node : goal.returns-clause-node
returns-clause-node c = record {
  own = λ i. c.args.allowed.lists;
  stands = c.in_ok-leaf.ensures.leaf.stands;
  value = c.cost_of.ensures
      ∙ fixed_is c.args.case.now c.args.allowed.lists c.in_ok-leaf.leaf c.priced-plan.result c.in_ok-plan.plan c.in_ok-leaf.ensures c.in_ok-plan.ensures
      c.priced-plan.ensures.priced c.priced-plan.ensures.value;
  priced = c.priced-plan.ensures.priced;
  open_part = λ e. let other : is_settled c.priced-plan.result c.cost_of.result ≡ true =
      ap (is_settled c.priced-plan.result) c.cost_of.ensures ∙ own_settled c.priced-plan.result in cc;
}

pub returns-clause-above : goal.returns-clause-above
returns-clause-above c = λ wide l part stands.
    subst (IsNoLess (bound_of_leaf c.args.case.now wide l)) (sym c.cost_of.ensures)
    (fixed_above c.args.case.now c.args.allowed.lists wide l c.priced-plan.result c.in_ok-plan.plan c.station-limits.ensures.limits c.requires.fits
    c.requires.one part stands c.in_ok-plan.ensures c.priced-plan.ensures.priced c.priced-plan.ensures.value)
