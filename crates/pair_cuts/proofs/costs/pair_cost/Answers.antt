use Rattle.std.proofs.Common.{◌≤◌, sym, ap, arith, pos}
use Rattle.pair_prices.specs.Fraction.{left_out}
use Rattle.pair_cuts.proofs.Limits.{cost_of_left_row}
use Rattle.pair_cuts.proofs.costs.pair_cost.Goals as goal

pub returns-else-i-count_of : goal.returns-else-i-count_of
returns-else-i-count_of c =
    let out = c.if-i-count_of.false in
    let count = c.count_of.ensures.value in
    let past : left_out c.args.allowed.now.lists c.args.first ≤ c.args.i = omega (arith, out, count) in
    ap pos (sym (cost_of_left_row c.args.case.now c.args.allowed.now.lists c.args.first c.args.second c.args.i c.args.j past))
