use Rattle.std.proofs.Common.{◌∙◌, ◌≤◌, ◌<◌, sym, ap, arith, pos, rules}
use mir.Syntax.{w64}
use mir.Val.{SFits}
use Rattle.std.proofs.lemmas.Int.{to_z-of_z}
use Rattle.pair_prices.specs.Fraction.{left_out}
use Rattle.pair_cuts.proofs.Limits.{cost_inside, cost_of_left_column}
use Rattle.pair_cuts.proofs.costs.cost_in_row.Goals as goal

pub returns-then-j-count_of : goal.returns-then-j-count_of
returns-then-j-count_of c =
    let fits : SFits w64 c.sealed_at.result = search rules in
    let inside = c.if-j-count_of.true in
    let count = c.count_of.ensures.value in
    let there : c.args.j < left_out c.args.allowed.now.lists c.args.second = omega (arith, inside, count) in
    to_z-of_z w64 c.sealed_at.result fits ∙ c.sealed_at.ensures
    ∙ ap pos (cost_inside c.args.case.now c.args.allowed.now.lists c.args.first c.args.second c.args.i c.args.j c.requires.row there)

pub returns-else-j-count_of : goal.returns-else-j-count_of
returns-else-j-count_of c =
    let out = c.if-j-count_of.false in
    let count = c.count_of.ensures.value in
    let past : left_out c.args.allowed.now.lists c.args.second ≤ c.args.j = omega (arith, out, count) in
    ap pos (sym (cost_of_left_column c.args.case.now c.args.allowed.now.lists c.args.first c.args.second c.args.i c.args.j past))
