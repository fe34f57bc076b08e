use Rattle.std.proofs.Common.{ℕ, ℤ, pos, List, map, subst, sym, ap, ◌∙◌, arith, sum, unsigned_abs, ◌<◌, ◌^◌}
use Rattle.std.proofs.lemmas.Int.{to_z_pos}
use mir.Syntax.{w128}
use Rattle.transport.specs.Core.{IsSolved}
use Rattle.transport.specs.Coupling.{IsLeastCost}
use Rattle.transport.proofs.Signed.{same_sizes}
use Rattle.transport.proofs.Least.{is_least_cost}
use Rattle.transport.proofs.cost_within.Goals as goal

pub solve_cost-requires-clause-totals : goal.solve_cost-requires-clause-totals
solve_cost-requires-clause-totals g c =
    let total = λ (l : List ℕ). sum l in
    ap total (c.deref.ensures.value ∙ c.in_ok-supply.ensures)
    ∙ same_sizes c.args.left.now c.args.right.now c.requires.left_weights c.requires.right_weights c.requires.totals
    ∙ sym (ap total (c.deref-2.ensures.value ∙ c.in_ok-demand.ensures))

pub returns : goal.returns
returns g c =
    let t = g.C.Cost.table c.args.cost.now in
    let left = c.args.left.now in
    let right = c.args.right.now in
    let least = c.in_ok-least.least in
    let f = c.in_ok-least.ensures.solved in
    let small : least < 2 ^ 127 = omega (arith, c.in_ok-least.ensures.most) in
    let A : List ℕ → Type 0 = λ l. IsSolved t l c.deref-2.result.now f.0 f.1 f.2 in
    let B : List ℕ → Type 0 = λ r. IsSolved t (map unsigned_abs left) r f.0 f.1 f.2 in
    let s = subst B (c.deref-2.ensures.value ∙ c.in_ok-demand.ensures) (subst A (c.deref.ensures.value ∙ c.in_ok-supply.ensures) f.3) in
    let Q : ℤ → Type 0 = λ z. IsLeastCost t left right z in
    subst Q (sym (to_z_pos w128 least small ∙ ap pos f.4))
    (is_least_cost t left right f.0 f.1 f.2 c.requires.left_weights c.requires.right_weights s)
