-- What fractional plans say of feasible plans.
use Rattle.std.specs.Prelude.{◌≡◌, ℕ, ◌*◌, ◌≤◌, List}
use Rattle.patterns.specs.Allowed.{full_lists}
use Rattle.pair_prices.specs.Case.{CaseRecord, IsCase}
use Rattle.pair_prices.specs.Top.{top_of}
use Rattle.pair_prices.specs.Plan.{IsFeasible, cost}
use Rattle.pair_prices.specs.Fraction.{Fraction, IsFraction, IsRootValue, scaled_cost}

-- A feasible plan gives a fractional plan of scale 1 over the full lists, with the same cost.
abbrev pub PlanIsFractional : Type 0
PlanIsFractional =
    (c : CaseRecord) → IsCase c → (plan : List ℕ) → IsFeasible c plan
    → (f : Fraction) × IsFraction c (full_lists c.book) f × (f.scale ≡ 1) × (scaled_cost c (full_lists c.book) f ≡ cost c plan)

-- The root value, value / scale, is at most the cost of every feasible plan.
abbrev pub RootValueBounds : Type 0
RootValueBounds =
    (c : CaseRecord) → IsCase c → (value scale : ℕ) → IsRootValue c value scale
    → (plan : List ℕ) → IsFeasible c plan → value ≤ cost c plan * scale

-- Where the root value, value / scale, is at least TOP, no plan is feasible.
abbrev pub TopMeansNoPlan : Type 0
TopMeansNoPlan =
    (c : CaseRecord) → IsCase c → (value scale : ℕ) → IsRootValue c value scale → top_of c * scale ≤ value
    → (plan : List ℕ) → IsFeasible c plan → ⊥
