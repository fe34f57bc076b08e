use Rattle.std.proofs.Common.{◌∙◌, rules}
use mir.Syntax.{w64}
use mir.Val.{SFits}
use Rattle.std.proofs.lemmas.Int.{to_z-of_z}
use Rattle.primal_heuristic.proofs.Cheaper.{judged_cost}
use Rattle.primal_heuristic.proofs.improving.improve_in.Goals as goal

pub best-requires : goal.best-requires
best-requires c =
    let total = c.in-Cost.costs.total in
    let fits : SFits w64 total = search rules in
    record {
      feasible = c.requires.feasible;
      value = to_z-of_z w64 total fits ∙ judged_cost c.args.case.now c.args.plan.choice c.in-Cost.costs c.in-Cost.ensures.value;
    }
