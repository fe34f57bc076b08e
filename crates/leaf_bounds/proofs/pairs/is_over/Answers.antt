use Rattle.std.proofs.Common.{◌∙◌}
use Rattle.patterns.specs.Book.{pattern_at}
use Rattle.pair_prices.specs.Top.{sealed_price}
use Rattle.leaf_bounds.specs.Listed.{pair_listed}
use Rattle.leaf_bounds.proofs.RowLemmas.{over_is, not_over_is, price_least}
use Rattle.leaf_bounds.proofs.pairs.is_over.Goals as goal

pub returns-then-worth-gt0 : goal.returns-then-worth-gt0
returns-then-worth-gt0 c =
    over_is c.args.row.now.alpha c.value_at.result c.price_of.result _ _ _ c.requires.row.small c.value_at.ensures.small c.requires.row.alpha
    (c.value_at.ensures.value ∙ (λ i. pair_listed c.args.leaf.now.beta (record { first = c.requires.first i; second = c.requires.second i }) c.args.at.now.number))
    (record { sfits = c.price_of.type_inv }) c.price_of.ensures

pub returns-else-worth-gt0 : goal.returns-else-worth-gt0
returns-else-worth-gt0 c =
    not_over_is c.args.row.now.alpha c.value_at.result c.value_at.result _ _ _ c.requires.row.small c.value_at.ensures.small c.requires.row.alpha
    (c.value_at.ensures.value ∙ (λ i. pair_listed c.args.leaf.now.beta (record { first = c.requires.first i; second = c.requires.second i }) c.args.at.now.number))
    (price_least c.args.leaf.now.q (sealed_price c.args.case.now (pattern_at c.args.case.now.book c.args.row.now.first c.args.row.now.number)
    (pattern_at c.args.case.now.book c.args.row.now.second c.args.at.now.number)) c.args.leaf.now.kept.q_least) c.if-worth-gt0.false
