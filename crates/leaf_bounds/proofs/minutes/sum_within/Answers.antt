use Rattle.std.proofs.Common.{drop, ap, ◌∙◌, sym, subst, arith, ℤ}
use Rattle.leaf_bounds.specs.Places.{value_below, AreMinuteValues, IsMinutePlace}
use Rattle.leaf_bounds.specs.Total.{total}
use Rattle.leaf_bounds.proofs.LoopLemmas.{returned}
use Rattle.leaf_bounds.proofs.MinuteLemmas.{minute_values_drop, rest_taken, within_from}
use Rattle.leaf_bounds.proofs.minutes.sum_within.Goals as goal

pub sum_below-requires : goal.sum_below-requires
sum_below-requires c =
    subst AreMinuteValues (sym (rest_taken c.first_place-from.result c.args.values.now))
    (minute_values_drop c.first_place-from.result c.args.values.now c.requires.values)

pub returns-clause-value : goal.returns-clause-value
returns-clause-value c =
    let place = subst (λ (z : ℤ). IsMinutePlace c.args.values.now z c.first_place-from.result) c.keys_of-keys.ensures.start c.first_place-from.ensures.place in
    let rest = ap (total (value_below c.keys_of-keys.result.end)) (rest_taken c.first_place-from.result c.args.values.now) in
    let end = ap (λ (z : ℤ). total (value_below z) (drop c.first_place-from.result c.args.values.now)) c.keys_of-keys.ensures.end in
    let within = within_from c.args.platform c.args.span.now.start c.args.span.now.end c.requires.held.least c.requires.held.most c.args.values.now
    c.first_place-from.result c.requires.values.each place in
    returned c.sum_below.result (omega (arith, c.sum_below.ensures.size)) ∙ c.sum_below.ensures.value ∙ rest ∙ end ∙ sym within
