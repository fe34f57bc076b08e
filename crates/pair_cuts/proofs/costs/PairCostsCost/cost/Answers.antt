use Rattle.std.proofs.Common.{◌∙◌, sym, ap, pos, rules}
use mir.Syntax.{w64}
use mir.Val.{SFits}
use Rattle.std.proofs.lemmas.Int.{to_z-of_z}
use Rattle.pair_cuts.specs.Table.{TwoTrains, cost_at}
use Rattle.pair_cuts.proofs.Limits.{cost_at_is}
use Rattle.pair_cuts.proofs.costs.PairCostsCost.cost.Goals as goal

pub returns : goal.returns
returns c =
    let fits : SFits w64 c.pair_cost.result = search rules in
    let v : TwoTrains = record { case = c.self.inside.case.now; lists = c.self.inside.allowed.now.lists; first = c.self.inside.first; second = c.self.inside.second } in
    to_z-of_z w64 c.pair_cost.result fits ∙ c.pair_cost.ensures ∙ ap pos (sym (cost_at_is v c.station-station.ensures.limits c.args.i c.args.j))
    ∙ ap (λ u. pos (cost_at u c.args.i c.args.j)) c.self.view_is
