-- Known plans, and the bounds that they settle.
use Rattle.std.proofs.Common.{◌≡◌, ℕ, Bool, true, false, List, ap, arith, ℤ, pos, ◌≤ℤ◌, Option, Some, None}
use Rattle.std.specs.Prelude.{int_le}
use Rattle.std.proofs.lemmas.Int.{ints}
use Rattle.pair_prices.specs.Case.{CaseRecord}
use Rattle.pair_prices.specs.Plan.{cost}
use Rattle.plan_cost.specs.declared.verdict.Clash.{Clash}
use Rattle.plan_cost.specs.declared.verdict.Costs.{Costs}
use Rattle.plan_cost.specs.declared.verdict.Verdict.TheVariants.{Cost}
use Rattle.plan_cost.specs.Verdict.{first_clash, costs_of, verdict_by, verdict_of}
use Rattle.leaf_bounds.specs.declared.tree.Bound.{Bound}
use Rattle.leaf_bounds.specs.declared.tree.Bound.TheVariants.{AtLeast, Nothing}
use Rattle.branching.specs.declared.found.Priced.{Priced}
use Rattle.branching.specs.Bounds.{IsAtLeast, IsNoLess}
use Rattle.branching.specs.Known.{is_settled, IsNoDearer}

costs_by : (o : Option Clash) (k costs : Costs) → Cost k ≡ verdict_by o costs → k ≡ costs
costs_by None k costs e = cc
costs_by (Some clash) k costs e = cc

-- what a judged plan costs
pub judged_cost : (c : CaseRecord) (plan : List ℕ) (k : Costs) → Cost k ≡ verdict_of c plan → k.total ≡ pos (cost c plan)
unfolding verdict_of costs_of
judged_cost c plan k e = ap (λ x. x.total) (costs_by (first_clash c plan) k (costs_of c plan) e)

pub le_of : (a b : ℤ) → int_le a b ≡ true → a ≤ℤ b
le_of a b h = grind (arith, ints)

pub of_le : (a b : ℤ) → a ≤ℤ b → int_le a b ≡ true
of_le a b h = grind (arith, ints)

above_of : (a b : ℤ) → int_le a b ≡ false → b ≤ℤ a
above_of a b h = grind (arith, ints)

-- a greater bound is settled too
pub settled_more : (best : Option Priced) (m n : ℤ) → m ≤ℤ n → is_settled best (AtLeast m) ≡ true → is_settled best (AtLeast n) ≡ true
settled_more None m n l h = cc
settled_more (Some p) m n l h = let less = le_of p.cost m h in of_le p.cost n (omega (arith, ints, l, less))

-- a settled bound is at least one that isn't settled
pub settled_above : (best : Option Priced) (b : Bound) (n : ℤ) → is_settled best b ≡ true → is_settled best (AtLeast n) ≡ false → IsAtLeast n b
settled_above best Nothing n h g = tt
settled_above None (AtLeast m) n h g = cc
settled_above (Some p) (AtLeast m) n h g =
    let less = le_of p.cost m h in let more = above_of p.cost n g in omega (arith, ints, less, more)

true_of : (b : Bool) → (b ≡ false → ⊥) → b ≡ true
true_of true h = cc
true_of false h = absurd (h cc)

-- a bound that a cheaper plan doesn't settle isn't settled by a dearer one
pub unsettled_before : (best new : Option Priced) (b : Bound) → IsNoDearer best new → is_settled new b ≡ false → is_settled best b ≡ false
unsettled_before best new Nothing h g = cc
unsettled_before None new (AtLeast n) h g = cc
unsettled_before (Some p) None (AtLeast n) h g = absurd h
unsettled_before (Some p) (Some q) (AtLeast n) h g = dearer p.cost q.cost n h g
  where
    dearer : (a b m : ℤ) → b ≤ℤ a → int_le b m ≡ false → int_le a m ≡ false
    dearer a b m l e = grind (arith, ints)

pub no_dearer_step : (a b d : Option Priced) → IsNoDearer a b → IsNoDearer b d → IsNoDearer a d
no_dearer_step None b d h g = tt
no_dearer_step (Some p) None d h g = absurd h
no_dearer_step (Some p) (Some q) None h g = absurd g
no_dearer_step (Some p) (Some q) (Some r) h g = omega (arith, ints, h, g)

pub no_less_step : (n : ℤ) (a b : Bound) → a ≡ AtLeast n → IsNoLess a b → IsAtLeast n b
no_less_step n Nothing b e h = cc
no_less_step n (AtLeast m) Nothing e h = tt
no_less_step n (AtLeast m) (AtLeast k) e h = let same : m ≡ n = cc in omega (arith, ints, same, h)
