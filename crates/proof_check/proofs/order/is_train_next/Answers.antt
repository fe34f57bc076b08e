use Rattle.std.proofs.Common.{pos, sym}
use Rattle.proof_check.proofs.OrderLemmas.{above_last}
use Rattle.proof_check.proofs.order.is_train_next.Goals as goal

pub returns-in-Some : goal.returns-in-Some
returns-in-Some c = sym (above_last (λ y. pos y.train) c.args.entries.now c.args.x.now c.in-Some.y.now c.requires (sym c.in-Some.ensures.value))
