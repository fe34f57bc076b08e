use Rattle.leaf_bounds.proofs.RowLemmas.{price_fits, price_is}
use Rattle.leaf_bounds.proofs.pairs.price_of.Goals as goal

pub overflow_mul-result : goal.overflow_mul-result
overflow_mul-result c =
    price_fits c.args.leaf.now.q c.sealed.result c.args.leaf.now.kept.q_least c.args.leaf.now.kept.q_most (record { sfits = c.sealed.type_inv })

pub returns : goal.returns
returns c =
    price_is c.args.leaf.now.q c.sealed.result c.args.leaf.now.kept.q_least c.args.leaf.now.kept.q_most (record { sfits = c.sealed.type_inv }) _ c.sealed.ensures
