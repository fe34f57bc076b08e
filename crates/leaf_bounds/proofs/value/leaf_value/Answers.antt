use Rattle.std.proofs.Common.{arith}
use Rattle.std.proofs.lemmas.Int.{ints}
use Rattle.leaf_bounds.proofs.WideLemmas.{answered, wide}
use Rattle.leaf_bounds.proofs.value.leaf_value.Goals as goal

pub returns : goal.returns
returns c =
    let least = c.args.leaf.now.kept.q_least in
    let most = c.args.leaf.now.kept.q_most in
    answered c.value_at_scale-value.result c.top_at_scale.result c.rounded_up.result c.args.leaf.now.q _ _ c.value_at_scale-value.ensures.size
    c.top_at_scale.ensures.size (record { sfits = c.rounded_up.type_inv }) (wide c.args.leaf.now.q (omega (arith, ints, least, most)))
    c.value_at_scale-value.ensures.value c.top_at_scale.ensures.value c.rounded_up.ensures
