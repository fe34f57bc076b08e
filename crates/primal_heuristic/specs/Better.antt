-- A known plan with its cost, and a better one.
use Rattle.std.specs.Prelude.{◌≡◌, ◌≤◌, pos}
use Rattle.pair_prices.specs.Case.{CaseRecord}
use Rattle.pair_prices.specs.Plan.{IsFeasible, cost}
use Rattle.primal_heuristic.specs.declared.known.Known.{Known}

-- the plan is feasible, and that is its cost
pub record IsKnown (c : CaseRecord) (k : Known) : Type 0 where
  pub feasible : IsFeasible c k.plan.choice
  pub value : k.cost ≡ pos (cost c k.plan.choice)

-- the second one is known too, and costs at most what the first costs
pub record IsNoDearer (c : CaseRecord) (old new : Known) : Type 0 where
  pub known : IsKnown c new
  pub most : cost c new.plan.choice ≤ cost c old.plan.choice
