use Rattle.std.proofs.Common.{refl}
use Rattle.dual_ascent.proofs.OrderLemmas.{train_values}
use Rattle.dual_ascent.proofs.ranges.are_train_values.Goals as goal

pub returns : goal.returns
returns c = λ t. train_values c.args.u.now (c.if-not-are_each_of_train.ensures refl) (c.ascend_in_trains.ensures t)
