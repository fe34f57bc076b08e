use Rattle.std.proofs.Common.{ap, arith}
use Rattle.pattern_pricing.proofs.Places.{count_is}
use Rattle.pattern_pricing.proofs.layout.Layout.column_at.Goals as goal

pub pair_at-requires : goal.pair_at-requires
pair_at-requires c =
    let whole = count_is c.args.self.now in
    let platforms = ap (λ l. l.platforms) c.self.view_is in
    let a = c.lefts-lefts.ensures.value in
    let b = c.trains.ensures.value in
    let inside = c.requires in
    let behind = c.if-number-pairs.false in
    omega (arith, whole, platforms, a, b, inside, behind)
