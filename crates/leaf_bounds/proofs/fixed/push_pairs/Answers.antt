use Rattle.std.proofs.Common.{◌++◌, get_or, ap, ◌∙◌}
use Rattle.leaf_bounds.specs.Fixed.{listed_pair, pair_entry}
use Rattle.leaf_bounds.proofs.PaidLemmas.{pairs_added, pairs_ended}
use Rattle.leaf_bounds.proofs.fixed.push_pairs.Goals as goal

pub loop-second-preserved : goal.loop-second-preserved
loop-second-preserved c =
    pairs_added (listed_pair c.args.case.now c.args.plan.now) (λ t. record { first = c.args.first; second = t }) c.loop-second.second c.args.trains
    c.loop-second.alpha.items c.push_pair.new.alpha.items _ c.loop-second-test.true c.loop-second.invariant
    (c.in_ok-push_pair.ensures
    ∙ ap (λ n. c.loop-second.alpha.items ++ pair_entry c.args.first c.loop-second.second (get_or c.args.plan.now c.args.first 0) n) c.sealed_by-price.ensures.value)

pub returns : goal.returns
returns c =
    pairs_ended (listed_pair c.args.case.now c.args.plan.now) (λ t. record { first = c.args.first; second = t }) c.loop-second.second c.args.trains
    c.loop-second.alpha.items _ c.loop-second-test.false c.loop-second.invariant
