use Rattle.std.proofs.Common.{◌^◌, get_or, sym, ◌∙◌, lit<}
use Rattle.leaf_bounds.specs.Listed.{minute_key}
use Rattle.leaf_bounds.specs.Places.{value_below}
use Rattle.leaf_bounds.proofs.LoopLemmas.{sum_fits, sum_more, sum_size, whole_value, whole_size}
use Rattle.leaf_bounds.proofs.MinuteLemmas.{less_at, at_least, minutes_bounded, no_entry, none_below, value_there}
use Rattle.leaf_bounds.proofs.minutes.sum_below.Goals as goal

pub overflow_add-sum : goal.overflow_add-sum
overflow_add-sum c =
    sum_fits (value_below c.args.keys.now.end) c.args.values.now c.loop-x.x-index (10 ^ 36) no_entry _ (get_or c.args.values.now c.loop-x.x-index no_entry).value
    c.loop-x-test.true c.loop-x.invariant
    (value_there c.args.keys.now.end (get_or c.args.values.now c.loop-x.x-index no_entry)
    (less_at c.args.keys.now.end (minute_key (get_or c.args.values.now c.loop-x.x-index no_entry)) (sym c.is_past-past.ensures ∙ c.if-past.false)))
    (λ j. minutes_bounded c.args.keys.now.end j c.args.values.now c.requires) (lit< tt)

pub loop-x-preserved : goal.loop-x-preserved
loop-x-preserved c =
    sum_more (value_below c.args.keys.now.end) c.args.values.now c.loop-x.x-index (10 ^ 36) no_entry _ (get_or c.args.values.now c.loop-x.x-index no_entry).value
    c.loop-x-test.true c.loop-x.invariant
    (value_there c.args.keys.now.end (get_or c.args.values.now c.loop-x.x-index no_entry)
    (less_at c.args.keys.now.end (minute_key (get_or c.args.values.now c.loop-x.x-index no_entry)) (sym c.is_past-past.ensures ∙ c.if-past.false)))
    (λ j. minutes_bounded c.args.keys.now.end j c.args.values.now c.requires) (lit< tt)

pub returns-clause-size : goal.returns-clause-size
returns-clause-size c =
    sum_size (value_below c.args.keys.now.end) c.args.values.now c.loop-x.x-index (10 ^ 36) _ c.loop-x-test.false
    c.loop-x.invariant (minutes_bounded c.args.keys.now.end 0 c.args.values.now c.requires)

pub returns-then-past-clause-value : goal.returns-then-past-clause-value
returns-then-past-clause-value c =
    whole_value (value_below c.args.keys.now.end) c.args.values.now c.loop-x.x-index _ c.loop-x.invariant
    (none_below c.args.keys.now.end c.loop-x.x-index no_entry c.args.values.now c.requires c.loop-x-test.true
    (at_least c.args.keys.now.end (minute_key (get_or c.args.values.now c.loop-x.x-index no_entry)) (sym c.is_past-past.ensures ∙ c.if-past.true)))

pub returns-then-past-clause-size : goal.returns-then-past-clause-size
returns-then-past-clause-size c =
    whole_size (value_below c.args.keys.now.end) c.args.values.now c.loop-x.x-index _ c.loop-x.invariant
    (none_below c.args.keys.now.end c.loop-x.x-index no_entry c.args.values.now c.requires c.loop-x-test.true
    (at_least c.args.keys.now.end (minute_key (get_or c.args.values.now c.loop-x.x-index no_entry)) (sym c.is_past-past.ensures ∙ c.if-past.true))) (10 ^ 36)
    (minutes_bounded c.args.keys.now.end 0 c.args.values.now c.requires)
