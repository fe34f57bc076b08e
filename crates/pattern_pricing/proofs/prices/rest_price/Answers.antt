use Rattle.std.proofs.Common.{◌+◌, ◌-◌, arith, sym, ◌∙◌}
use Rattle.pattern_pricing.specs.declared.column.Column.TheVariants.{LeftOut, PlatformUse}
use Rattle.pattern_pricing.specs.Positions.{patterns_in}
use Rattle.pattern_pricing.proofs.Places.{priced, pair_price_here}
use Rattle.pattern_pricing.proofs.prices.rest_price.Goals as goal

pub returns-then-number-uses : goal.returns-then-number-uses
returns-then-number-uses c =
    let l = c.args.layout.now in
    let t = c.args.number - patterns_in l in
    let a = c.lefts.ensures.value in
    let b = c.trains.ensures.value in
    let below = c.if-number-uses.true in
    let rest = c.requires.rest in
    c.top.ensures ∙ sym (priced l c.args.case.now (LeftOut t) (omega (arith, a, b, below, rest)) c.args.number (omega (arith, rest)))

pub returns-then-number-pairs : goal.returns-then-number-pairs
returns-then-number-pairs c =
    let l = c.args.layout.now in
    let p = c.args.number - (c.lefts.result + c.trains.result) in
    let a = c.lefts.ensures.value in
    let b = c.trains.ensures.value in
    let d = c.platforms.ensures.value in
    let past = c.if-number-uses.false in
    let below = c.if-number-pairs.true in
    c.use_price.ensures ∙ sym (priced l c.args.case.now (PlatformUse p) (omega (arith, d, past, below)) c.args.number (omega (arith, a, b, past)))

pub returns : goal.returns
returns c =
    let l = c.args.layout.now in
    let a = c.lefts.ensures.value in
    let b = c.trains.ensures.value in
    let d = c.platforms.ensures.value in
    let past = c.if-number-pairs.false in
    sym (pair_price_here l c.args.case.now c.args.number (omega (arith, a, b, d, past)) c.requires.inside)
