use Rattle.std.proofs.Common.{ap, ◌∙◌, subst, sym, pos, neg_ℤ, ◌-ℤ◌}
use Rattle.std.specs.Int.{int_max}
use Rattle.leaf_bounds.specs.Leaf.{excess}
use Rattle.leaf_bounds.specs.Places.{value_within, AreMinuteValues}
use Rattle.leaf_bounds.specs.Total.{total}
use Rattle.leaf_bounds.proofs.MinuteLemmas.{minute_values}
use Rattle.leaf_bounds.proofs.SwapLemmas.{all_is}
use Rattle.leaf_bounds.proofs.WideLemmas.{excess_is, excess_size}
use Rattle.leaf_bounds.proofs.value.excess_of.Goals as goal

pub sum_within-sum-requires-clause-values : goal.sum_within-sum-requires-clause-values
sum_within-sum-requires-clause-values c = subst AreMinuteValues (sym c.as_slice.ensures) (minute_values c.args.leaf.now)

pub returns-clause-value : goal.returns-clause-value
unfolding excess
returns-clause-value c =
    let sum = c.sum_within-sum.ensures.value ∙ ap (total (value_within c.args.platform (neg_ℤ (pos 90)) (pos 2969))) c.as_slice.ensures
    ∙ sym (all_is c.args.leaf.now c.args.platform) in
    let price = c.price_at_scale.ensures.value in
    excess_is c.sum_within-sum.result c.price_at_scale.result c.max.result c.sum_within-sum.ensures.size c.price_at_scale.ensures.size
    c.price_at_scale.ensures.least c.max.ensures.value
    ∙ (λ i. int_max (sum i -ℤ price i) (pos 0))

pub returns-clause-size : goal.returns-clause-size
returns-clause-size c =
    excess_size c.sum_within-sum.result c.price_at_scale.result c.max.result c.sum_within-sum.ensures.size c.price_at_scale.ensures.size
    c.price_at_scale.ensures.least c.max.ensures.value
