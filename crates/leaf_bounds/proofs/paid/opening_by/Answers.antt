use Rattle.leaf_bounds.proofs.PaidLemmas.{opens, opens_not}
use Rattle.leaf_bounds.proofs.paid.opening_by.Goals as goal

pub returns-then-first-clause-value : goal.returns-then-first-clause-value
returns-then-first-clause-value c =
    opens c.args.case.now c.args.plan.now c.args.train c.price_of_platform.result c.chosen_of-platform.result c.opener_of.result c.is_that-first.result
    c.chosen_of-platform.ensures c.opener_of.ensures.value c.is_that-first.ensures c.if-first.true c.price_of_platform.ensures

pub returns-else-first-clause-value : goal.returns-else-first-clause-value
returns-else-first-clause-value c =
    opens_not c.args.case.now c.args.plan.now c.args.train c.chosen_of-platform.result c.opener_of.result c.is_that-first.result
    c.chosen_of-platform.ensures c.opener_of.ensures.value c.is_that-first.ensures c.if-first.false
