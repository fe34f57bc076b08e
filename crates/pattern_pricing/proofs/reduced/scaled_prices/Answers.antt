use Rattle.std.proofs.Common.{◌++◌, ◌∷◌, [], pos, ◌*ℤ◌, sym, ap, ◌∙◌, arith}
use Rattle.pattern_pricing.specs.Positions.{start_of}
use Rattle.pattern_pricing.specs.Prices.{prices_of}
use Rattle.pattern_pricing.specs.Reduced.{scaled_front}
use Rattle.pattern_pricing.proofs.Dear.{prices_most}
use Rattle.pattern_pricing.proofs.Fronts.{front_more, handed, scaled_fits}
use Rattle.pattern_pricing.proofs.Places.{count_is, prices_long}
use Rattle.pattern_pricing.proofs.reduced.scaled_prices.Goals as goal

pub loop-train-init : goal.loop-train-init
unfolding start_of
loop-train-init c = record { value = c.in_ok-scaled.ensures.items; ledger = omega arith }

pub returns-in_err-push_scaled-clause-never : goal.returns-in_err-push_scaled-clause-never
returns-in_err-push_scaled-clause-never c = λ left small.
    let inside = c.loop-number-test.true in
    let count = c.count-number-end.ensures.value in
    let most = prices_most c.args.case.now c.args.layout.now c.loop-number.number (omega (arith, inside, count)) in
    let price = c.rest_price-price.ensures in
    c.in_err-push_scaled.ensures.never (handed (Unit {0}) c.from_residual-in_err-push_scaled.result c.in_err-push_scaled.field-0.0 c.from_residual-in_err-push_scaled.ensures.1 left)
    (scaled_fits c.args.duals.now.scale c.rest_price-price.result _ (omega (arith, most, price)) small)

pub loop-number-preserved : goal.loop-number-preserved
loop-number-preserved c =
    let l = c.args.layout.now in
    let ps = prices_of c.args.case.now l in
    let s = c.args.duals.now.scale in
    let k = c.loop-number.number in
    let inside = c.loop-number-test.true in
    let count = c.count-number-end.ensures.value in
    let long = prices_long l c.args.case.now in
    let so_far = c.loop-number.invariant.ledger in
    let here = c.in_ok-push_scaled.ensures.ledger in
    record {
      value = c.in_ok-push_scaled.ensures.value ∙ ap (λ xs. xs ++ (s *ℤ pos c.rest_price-price.result) ∷ []) c.loop-number.invariant.value
          ∙ sym (front_more s ps k c.rest_price-price.result (omega (arith, inside, count, long)) (sym c.rest_price-price.ensures));
      ledger = omega (arith, so_far, here);
    }

pub returns-clause-value : goal.returns-clause-value
returns-clause-value c =
    let l = c.args.layout.now in
    let whole = count_is l in
    let first = c.lefts-number.ensures.value in
    let count = c.count-number-end.ensures.value in
    let done = c.loop-number-test.false in
    let ends = c.loop-number.auto.number-end (omega (arith, whole, first, count)) in
    c.loop-number.invariant.value ∙ ap (scaled_front c.args.duals.now.scale (prices_of c.args.case.now l)) (omega (arith, done, ends, count))
