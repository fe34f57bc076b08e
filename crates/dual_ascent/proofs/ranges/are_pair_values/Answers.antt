use Rattle.std.proofs.Common.{refl}
use Rattle.dual_ascent.proofs.OrderLemmas.{pair_values}
use Rattle.dual_ascent.proofs.ranges.are_pair_values.Goals as goal

pub returns : goal.returns
returns c = λ t. pair_values c.args.xs.now (c.if-not-are_each_of_pair.ensures refl) (c.ascend_in_pairs.ensures t)
