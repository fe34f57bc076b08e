use Rattle.std.proofs.Common.{refl}
use Rattle.dual_ascent.proofs.OrderLemmas.{minute_values}
use Rattle.dual_ascent.proofs.ranges.are_minute_values.Goals as goal

pub returns : goal.returns
returns c = λ t. minute_values c.args.v.now (c.if-not-are_each_of_minute.ensures refl) (c.ascend_in_minutes.ensures t)
