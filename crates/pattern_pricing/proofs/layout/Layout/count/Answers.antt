use Rattle.std.proofs.Common.{ap, arith}
use Rattle.pattern_pricing.proofs.Places.{count_is}
use Rattle.pattern_pricing.proofs.layout.Layout.count.Goals as goal

pub returns-clause-value : goal.returns-clause-value
returns-clause-value c =
    let whole = count_is c.args.self.now in
    let platforms = ap (λ l. l.platforms) c.self.view_is in
    let a = c.lefts.ensures.value in
    let b = c.trains.ensures.value in
    let d = c.pairs.ensures.value in
    omega (arith, whole, platforms, a, b, d)
