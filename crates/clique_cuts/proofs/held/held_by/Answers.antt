use Rattle.std.proofs.Common.{ℕ, ◌≡◌, ◌∙◌, ◌+◌, sym, ap, arith, length, cond}
use Rattle.std.specs.Prelude.{sum_by}
use Rattle.station.specs.Allowed.{numbers}
use Rattle.patterns.specs.Allowed.{list_of}
use Rattle.pair_prices.specs.Fraction.{holds_there, pattern_of}
use Rattle.pair_prices.proofs.TopLemmas.{sum_numbers_more}
use Rattle.clique_cuts.specs.Over.{fraction_of}
use Rattle.clique_cuts.proofs.Sums.{weights_most}
use Rattle.clique_cuts.proofs.held.held_by.Goals as goal

pub overflow_add-total : goal.overflow_add-total
overflow_add-total c =
    let w = c.args.weights.now in
    let so_far = c.loop-place.invariant.most in
    let here = c.held_at-total.ensures.most in
    let more = sum_numbers_more ((fraction_of w).weight c.args.train) c.loop-place.place in
    let trains = c.requires.lists.trains in
    let train = c.requires.train in
    let below = c.loop-place-test.true in
    let count = c.count_of-count.ensures in
    let most = weights_most c.args.allowed.now.lists w c.requires.weights c.requires.scale c.args.train (c.loop-place.place + 1) (omega (arith, trains, train)) (omega (arith, below, count)) in
    record { fits = omega (arith, so_far, here, more, most) }

pub loop-place-preserved : goal.loop-place-preserved
loop-place-preserved c =
    let w = c.args.weights.now in
    let term : ℕ → ℕ = λ i. cond (holds_there c.args.case.now c.args.spot.now.platform c.args.spot.now.minute (pattern_of c.args.case.now c.args.allowed.now.lists c.args.train i)) ((fraction_of w).weight c.args.train i) 0 in
    let so_far = c.loop-place.invariant.most in
    let here = c.held_at-total.ensures.most in
    let more = sum_numbers_more ((fraction_of w).weight c.args.train) c.loop-place.place in
    record {
      value = ap (λ n. n + c.held_at-total.result) c.loop-place.invariant.value
          ∙ ap (λ n. sum_by term (numbers c.loop-place.place) + n) c.held_at-total.ensures.value
          ∙ sym (sum_numbers_more term c.loop-place.place);
      most = omega (arith, so_far, here, more);
    }

pub returns-clause-value : goal.returns-clause-value
returns-clause-value c =
    let w = c.args.weights.now in
    let term : ℕ → ℕ = λ i. cond (holds_there c.args.case.now c.args.spot.now.platform c.args.spot.now.minute (pattern_of c.args.case.now c.args.allowed.now.lists c.args.train i)) ((fraction_of w).weight c.args.train i) 0 in
    let done = c.loop-place-test.false in
    let ends = c.loop-place.auto.place-end in
    let count = c.count_of-count.ensures in
    let end : c.loop-place.place ≡ length (list_of c.args.allowed.now.lists c.args.train) = omega (arith, done, ends, count) in
    c.loop-place.invariant.value ∙ ap (λ k. sum_by term (numbers k)) end

pub returns-clause-most : goal.returns-clause-most
returns-clause-most c =
    let w = c.args.weights.now in
    let so_far = c.loop-place.invariant.most in
    let trains = c.requires.lists.trains in
    let train = c.requires.train in
    let ends = c.loop-place.auto.place-end in
    let count = c.count_of-count.ensures in
    let most = weights_most c.args.allowed.now.lists w c.requires.weights c.requires.scale c.args.train c.loop-place.place (omega (arith, trains, train)) (omega (arith, ends, count)) in
    omega (arith, so_far, most)
