use Rattle.std.proofs.Common.{sym, ◌∙◌}
use Rattle.leaf_bounds.specs.Listed.{minute_key}
use Rattle.proof_check.proofs.OrderLemmas.{above_last}
use Rattle.proof_check.proofs.order.is_minute_next.Goals as goal

pub returns-in-Some : goal.returns-in-Some
returns-in-Some c = c.is_minute_before.ensures ∙ sym (above_last minute_key c.args.entries.now c.args.x.now c.in-Some.y.now c.requires (sym c.in-Some.ensures.value))
