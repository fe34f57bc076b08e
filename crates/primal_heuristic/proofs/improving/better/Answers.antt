use Rattle.std.proofs.Common.{◌∙◌, sym, ap, subst, refl, rules, ℤ, to_z, of_z}
use Rattle.std.specs.Prelude.{int_lt}
use mir.Syntax.{w64}
use mir.Val.{SFits}
use Rattle.std.proofs.lemmas.Int.{to_z-of_z}
use Rattle.primal_heuristic.specs.Better.{IsNoDearer}
use Rattle.primal_heuristic.proofs.Cheaper.{cheaper}
use Rattle.primal_heuristic.proofs.improving.better.Goals as goal

pub returns-then-costs-known : goal.returns-then-costs-known
returns-then-costs-known c =
    let total = c.in-Cost.costs.total in
    let total_fits : SFits w64 total = search rules in
    let known_fits : SFits w64 c.args.known.cost = search rules in
    let P : ℤ → Type 0 = λ z. IsNoDearer c.args.case.now c.args.known (record { plan = record { choice = c.from_vec.result }; cost = z }) in
    subst P (sym (to_z-of_z w64 total total_fits))
    (cheaper c.args.case.now c.args.known c.from_vec.result c.in-Cost.costs c.in-Cost.ensures.value (c.in-Cost.ensures.feasible.0 refl) c.requires
    (ap (λ z. int_lt z c.args.known.cost) (sym (to_z-of_z w64 total total_fits))
    ∙ ap (int_lt (to_z w64 (of_z w64 total))) (sym (to_z-of_z w64 c.args.known.cost known_fits))
    ∙ c.if-costs-known.true))
