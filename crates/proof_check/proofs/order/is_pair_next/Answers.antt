use Rattle.std.proofs.Common.{pos, sym, ◌∙◌}
use Rattle.leaf_bounds.specs.Listed.{pair_key}
use Rattle.proof_check.proofs.OrderLemmas.{above_last}
use Rattle.proof_check.proofs.order.is_pair_next.Goals as goal

pub returns-in-Some : goal.returns-in-Some
returns-in-Some c = c.is_pair_before.ensures ∙ sym (above_last (λ y. pos (pair_key y)) c.args.entries.now c.args.x.now c.in-Some.y.now c.requires (sym c.in-Some.ensures.value))
