use Rattle.std.proofs.Common.{◌≡◌, ℕ, length, ap, ◌∙◌, arith}
use Rattle.std.specs.Prelude.{flat_map}
use Rattle.station.specs.Allowed.{numbers}
use Rattle.pair_prices.specs.Trains.{pairs_with, train_pairs}
use Rattle.leaf_bounds.specs.Fixed.{listed_pair, pair_list}
use Rattle.leaf_bounds.proofs.PaidLemmas.{trains_added}
use Rattle.leaf_bounds.proofs.fixed.sealed_list.Goals as goal

pub loop-first-preserved : goal.loop-first-preserved
loop-first-preserved c =
    trains_added (listed_pair c.args.case.now c.args.plan.now) (pairs_with c.trains-trains.result) c.loop-first.first c.loop-first.alpha.items
    c.push_pairs.new.alpha.items c.loop-first.invariant c.in_ok-push_pairs.ensures

pub returns : goal.returns
unfolding pair_list train_pairs
returns c =
    let trains = c.trains-trains.ensures.value ∙ ap length c.book.ensures in
    let count : c.loop-first.first ≡ length c.args.case.now.book = omega (arith, c.loop-first.auto.first-end, c.loop-first-test.false, trains) in
    c.from_vec.ensures ∙ c.loop-first.invariant
    ∙ ap (λ (n : ℕ). flat_map (listed_pair c.args.case.now c.args.plan.now) (flat_map (pairs_with n) (numbers c.loop-first.first))) trains
    ∙ ap (λ (n : ℕ). flat_map (listed_pair c.args.case.now c.args.plan.now) (flat_map (pairs_with (length c.args.case.now.book)) (numbers n))) count
