use Rattle.std.proofs.Common.{sym, ◌∙◌}
use Rattle.std.specs.Result.{is_ok}
use Rattle.proof_check.proofs.TableLemmas.{beta_kept, was_due}
use Rattle.proof_check.proofs.table.Table.push_beta.Goals as goal

pub invariant_of-self : goal.invariant_of-self
invariant_of-self c = record {
  kept = beta_kept c.args.book.now c.args.x.now c.args.self.now.first c.args.self.now.second c.args.self.now.alpha.items c.args.self.now.beta.items
      c.push.new.self.items (is_ok c.push.result)
      (sym c.is_beta_due.ensures ∙ was_due c.is_beta_due.result c.placed.result c.in_ok-placed.field-0 c.placed.ensures c.in_ok-placed.was) c.push.ensures.items c.args.self.now.kept;
}
