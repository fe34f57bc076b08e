use Rattle.std.proofs.Common.{◌≡◌, ◌+◌, ◌<◌, length, refl, sym, ap, ◌∙◌, arith, ◌++◌, ◌∷◌, [], pos, ◌*ℤ◌}
use Rattle.std.specs.Prelude.{slice_index}
use Rattle.pattern_pricing.specs.Layout.{weight_column}
use Rattle.pattern_pricing.specs.Positions.{start_of}
use Rattle.pattern_pricing.specs.Prices.{prices_of}
use Rattle.pattern_pricing.specs.Reduced.{scaled_front}
use Rattle.pattern_pricing.proofs.Dear.{price_most}
use Rattle.pattern_pricing.proofs.Fronts.{front_more, handed, scaled_fits}
use Rattle.pattern_pricing.proofs.Places.{count_is, priced, prices_long, start_most, start_next}
use Rattle.pattern_pricing.proofs.reduced.push_train.Goals as goal
use Rattle.pattern_pricing.proofs.reduced.push_train.Goals.{After-pattern_price-price}

is_price : (c : After-pattern_price-price) → slice_index (prices_of c.args.case.now c.args.layout.now) (start_of c.args.layout.now c.args.train + c.loop-place.place) ≡ c.pattern_price-price.result
is_price c =
    let l = c.args.layout.now in
    let size = c.size-place-end.ensures in
    let inside = c.loop-place-test.true in
    priced l c.args.case.now (weight_column c.args.train c.loop-place.place) (c.requires.train, omega (arith, size, inside))
    (start_of l c.args.train + c.loop-place.place) refl ∙ sym c.pattern_price-price.ensures

pub returns-in_err-push_scaled-clause-never : goal.returns-in_err-push_scaled-clause-never
returns-in_err-push_scaled-clause-never c = λ left small.
    let most = price_most c.args.case.now c.args.layout.now (weight_column c.args.train c.loop-place.place) in
    let price = c.pattern_price-price.ensures in
    c.in_err-push_scaled.ensures.never (handed (Unit {0}) c.from_residual.result c.in_err-push_scaled.field-0.0 c.from_residual.ensures.1 left)
    (scaled_fits c.args.duals.now.scale c.pattern_price-price.result _ (omega (arith, most, price)) small)

pub loop-place-preserved : goal.loop-place-preserved
loop-place-preserved c =
    let l = c.args.layout.now in
    let ps = prices_of c.args.case.now l in
    let s = c.args.duals.now.scale in
    let k = start_of l c.args.train + c.loop-place.place in
    let price = is_price (goal.at.loop-place-preserved c).After-pattern_price-price in
    let size = c.size-place-end.ensures in
    let inside = c.loop-place-test.true in
    let next = start_next l c.args.train in
    let train = c.requires.train in
    let most = start_most l (c.args.train + 1) (omega (arith, train)) in
    let count = count_is l in
    let long = prices_long l c.args.case.now in
    let there : k < length ps = omega (arith, size, inside, next, most, count, long) in
    let so_far = c.loop-place.invariant.ledger in
    let here = c.in_ok-push_scaled.ensures.ledger in
    record {
      value = c.in_ok-push_scaled.ensures.value ∙ ap (λ xs. xs ++ (s *ℤ pos c.pattern_price-price.result) ∷ []) c.loop-place.invariant.value
          ∙ sym (front_more s ps k c.pattern_price-price.result there price) ∙ ap (scaled_front s ps) (omega arith);
      ledger = omega (arith, so_far, here);
    }

pub returns-clause-value : goal.returns-clause-value
returns-clause-value c =
    let l = c.args.layout.now in
    let size = c.size-place-end.ensures in
    let done = c.loop-place-test.false in
    let ends = c.loop-place.auto.place-end in
    let next = start_next l c.args.train in
    c.loop-place.invariant.value ∙ ap (scaled_front c.args.duals.now.scale (prices_of c.args.case.now l)) (omega (arith, size, done, ends, next))
