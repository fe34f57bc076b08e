use Rattle.std.proofs.Common.{◌<◌, ◌^◌, pos, sym, ap, ◌∙◌, arith}
use Rattle.std.proofs.lemmas.Int.{fits_signed_from_abs, to_z_pos}
use mir.Syntax.{w64}
use Rattle.pattern_pricing.specs.Prices.{column_price}
use Rattle.pattern_pricing.proofs.Dear.{price_most}
use Rattle.pattern_pricing.proofs.Places.{price_here}
use Rattle.pattern_pricing.proofs.pricing.PatternPricingColumns.price.Goals as goal
use Rattle.pattern_pricing.proofs.pricing.PatternPricingColumns.price.Goals.{After-price_of}

is_small : (c : After-price_of) → c.price_of.result < 2 ^ 63
is_small c =
    let most = price_most c.self.inside.case.now c.self.inside.layout.now c.column.result in
    let price = c.price_of.ensures in
    let top = c.top-top.ensures.limit in
    omega (arith, most, price, top)

pub overflow_cast-result : goal.overflow_cast-result
overflow_cast-result c = fits_signed_from_abs w64 (pos c.price_of.result) (is_small c)

pub returns : goal.returns
returns c =
    to_z_pos w64 c.price_of.result (is_small c)
    ∙ ap pos (c.price_of.ensures ∙ sym (price_here c.self.inside.layout.now c.self.inside.case.now c.args.column c.column.result c.column.ensures.value))
    ∙ ap (λ p. pos (column_price p c.args.column)) c.self.view_is
