use Rattle.std.proofs.Common.{◌∙◌}
use Rattle.leaf_bounds.proofs.PlanLists.{plan_lists}
use Rattle.leaf_bounds.proofs.fixed.leaf_of_plan.Goals as goal

pub invariant_of-result : goal.invariant_of-result
invariant_of-result c = record {
  kept = plan_lists c.args.case.now c.args.plan.now c.station-limits.ensures.limits c.requires _ _ _ _ c.in_ok-paid_list.ensures
      c.in_ok-opened_list.ensures c.in_ok-sealed_list.ensures (c.from_vec.ensures ∙ c.new.ensures.items);
}
