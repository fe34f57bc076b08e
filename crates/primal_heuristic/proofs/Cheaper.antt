-- A judged plan that costs less than a known one.
use Rattle.std.proofs.Common.{◌≡◌, ℕ, ◌<◌, List, true, sym, ap, ◌∙◌, arith, pos, Option, Some, None}
use Rattle.std.specs.Prelude.{int_lt}
use Rattle.std.proofs.lemmas.Int.{ints}
use Rattle.std.proofs.lemmas.Bool.Decides.{nat_tests}
use Rattle.pair_prices.specs.Case.{CaseRecord}
use Rattle.pair_prices.specs.Plan.{IsFeasible, cost}
use Rattle.plan_cost.specs.declared.verdict.Clash.{Clash}
use Rattle.plan_cost.specs.declared.verdict.Costs.{Costs}
use Rattle.plan_cost.specs.declared.verdict.Verdict.TheVariants.{Cost}
use Rattle.plan_cost.specs.Verdict.{first_clash, costs_of, verdict_by, verdict_of}
use Rattle.primal_heuristic.specs.declared.known.Known.{Known}
use Rattle.primal_heuristic.specs.Better.{IsKnown, IsNoDearer}

costs_by : (o : Option Clash) (k costs : Costs) → Cost k ≡ verdict_by o costs → k ≡ costs
costs_by None k costs e = cc
costs_by (Some clash) k costs e = cc

pub judged_cost : (c : CaseRecord) (choice : List ℕ) (k : Costs) → Cost k ≡ verdict_of c choice → k.total ≡ pos (cost c choice)
unfolding verdict_of costs_of
judged_cost c choice k e = ap (λ x. x.total) (costs_by (first_clash c choice) k (costs_of c choice) e)

less_pos : (a b : ℕ) → int_lt (pos a) (pos b) ≡ true → a < b
less_pos a b e = grind (arith, ints, nat_tests)

pub cheaper : (c : CaseRecord) (known : Known) (choice : List ℕ) (k : Costs) → Cost k ≡ verdict_of c choice → IsFeasible c choice
    → IsKnown c known → int_lt k.total known.cost ≡ true
    → IsNoDearer c known (record { plan = record { choice = choice }; cost = k.total })
cheaper c known choice k e feasible old less = record {
  known = record { feasible = feasible; value = judged_cost c choice k e };
  most =
      let below = less_pos (cost c choice) (cost c known.plan.choice)
      (ap (λ z. int_lt z (pos (cost c known.plan.choice))) (sym (judged_cost c choice k e)) ∙ ap (int_lt k.total) (sym old.value) ∙ less) in
      omega (arith, below);
}
