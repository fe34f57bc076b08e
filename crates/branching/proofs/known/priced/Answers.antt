use Rattle.std.proofs.Common.{◌∙◌, refl, rules}
use Rattle.std.proofs.lemmas.Int.{to_z-of_z}
use mir.Syntax.{w64}
use mir.Val.{SFits}
use Rattle.branching.proofs.KnownLemmas.{judged_cost}
use Rattle.branching.proofs.known.priced.Goals as goal

pub returns-in-Cost-clause-priced : goal.returns-in-Cost-clause-priced
returns-in-Cost-clause-priced c =
    let fits : SFits w64 c.in-Cost.costs.total = search rules in
    record {
      feasible = c.in-Cost.ensures.feasible.0 refl;
      value = to_z-of_z w64 c.in-Cost.costs.total fits ∙ judged_cost c.args.case.now c.args.plan.choice c.in-Cost.costs c.in-Cost.ensures.value;
    }
