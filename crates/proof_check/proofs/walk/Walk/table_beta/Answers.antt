use Rattle.std.proofs.Common.{◌≡◌, subst, sym, ◌∙◌}
use Rattle.proof_file.specs.declared.record.ProofRecord.TheVariants.{Tb}
use Rattle.proof_rules.specs.Fault.{after, with_last}
use Rattle.patterns.specs.Book.{Offers}
use Rattle.proof_check.specs.Going.{IsFound}
use Rattle.proof_check.specs.Tables.{beta_added, groups_of}
use Rattle.proof_check.specs.Walk.{IsSound, state_of}
use Rattle.proof_check.proofs.TableLemmas.{was_due}
use Rattle.proof_check.proofs.WalkSteps.{refuses, beta_refused, beta_step}
use Rattle.proof_check.proofs.walk.Walk.table_beta.Goals as goal

pub returns-in_err-placed : goal.returns-in_err-placed
returns-in_err-placed c =
    refuses (after c.args.case.now (state_of c.args.self.now) (Tb c.args.x.now)) (λ s. (state_of c.args.self.now ≡ s) × IsSound c.args.case.now c.args.self.now)
    c.has_tables.result c.placed.result c.from_residual.result c.in_err-placed.field-0.0 c.placed.ensures c.in_err-placed.was c.from_residual.ensures.1
    (λ e. beta_refused c.args.case.now c.args.self.now c.requires c.args.x.now (λ s. (state_of c.args.self.now ≡ s) × IsSound c.args.case.now c.args.self.now) (sym c.has_tables.ensures ∙ e))

pub returns : goal.returns
returns c = beta_step c.args.case.now c.args.self.now c.requires c.args.x.now c.push_beta.new.self c.push_beta.result
    (sym c.has_tables.ensures ∙ was_due c.has_tables.result c.placed.result c.in_ok-placed.field-0 c.placed.ensures c.in_ok-placed.was)
    (subst (λ (b : Offers). IsFound (with_last (beta_added b c.args.x.now) (groups_of c.args.self.now.tables)) (groups_of c.push_beta.new.self) c.push_beta.result)
    c.book.ensures c.push_beta.ensures)
