-- Plans that are known, with their costs, and which bounds they settle.
use Rattle.std.specs.Prelude.{◌≡◌, ℕ, ◌≤◌, Bool, true, false, List, Option, Some, None, pos, ◌≤ℤ◌, int_le}
use Rattle.pair_prices.specs.Case.{CaseRecord}
use Rattle.pair_prices.specs.Plan.{IsFeasible, cost}
use Rattle.leaf_bounds.specs.declared.tree.Bound.{Bound}
use Rattle.leaf_bounds.specs.declared.tree.Bound.TheVariants.{AtLeast, Nothing}
use Rattle.primal_heuristic.specs.Greedy.{greedy_plan}
use Rattle.branching.specs.declared.found.Priced.{Priced}

-- a feasible plan with its cost
pub record IsPriced (c : CaseRecord) (p : Priced) : Type 0 where
  pub feasible : IsFeasible c p.plan.choice
  pub value : p.cost ≡ pos (cost c p.plan.choice)

abbrev pub IsPricedIfAny : CaseRecord → Option Priced → Type 0
IsPricedIfAny c None = Unit {0}
IsPricedIfAny c (Some p) = IsPriced c p

-- It costs at most what the greedy plan costs.
pub record IsKnownPlan (c : CaseRecord) (p : Priced) : Type 0 where
  pub priced : IsPriced c p
  pub greedy : (plan : List ℕ) → greedy_plan c ≡ Some plan → cost c p.plan.choice ≤ cost c plan

-- No plan is known only where there is no greedy plan.
abbrev pub IsKnown : CaseRecord → Option Priced → Type 0
IsKnown c None = greedy_plan c ≡ None
IsKnown c (Some p) = IsKnownPlan c p

-- the second costs at most what the first costs, where there is a first
abbrev pub IsNoDearer : Option Priced → Option Priced → Type 0
IsNoDearer None new = Unit {0}
IsNoDearer (Some p) None = ⊥
IsNoDearer (Some p) (Some q) = q.cost ≤ℤ p.cost

-- Where a bound is at least the cost of the known plan, no cheaper plan is there.
abbrev pub is_settled : Option Priced → Bound → Bool
is_settled best Nothing = true
is_settled None (AtLeast n) = false
is_settled (Some p) (AtLeast n) = int_le p.cost n
