use Rattle.std.proofs.Common.{◌≡◌, sym, ◌∙◌}
use Rattle.proof_file.specs.declared.record.ProofRecord.TheVariants.{Head}
use Rattle.proof_rules.specs.Fault.{after}
use Rattle.proof_check.specs.Walk.{IsSound, state_of}
use Rattle.proof_check.proofs.TableLemmas.{was_due}
use Rattle.proof_check.proofs.WalkSteps.{refuses, head_refused, head_done}
use Rattle.proof_check.proofs.walk.Walk.head.Goals as goal

pub returns-in_err-placed : goal.returns-in_err-placed
returns-in_err-placed c =
    refuses (after c.args.case.now (state_of c.args.self.now) (Head c.args.x.now)) (λ s. (state_of c.args.self.now ≡ s) × IsSound c.args.case.now c.args.self.now)
    c.is_head_due.result c.placed.result c.from_residual.result c.in_err-placed.field-0.0 c.placed.ensures c.in_err-placed.was c.from_residual.ensures.1
    (λ e. head_refused c.args.case.now c.args.self.now c.requires.sound c.args.x.now (λ s. (state_of c.args.self.now ≡ s) × IsSound c.args.case.now c.args.self.now) (sym c.is_head_due.ensures ∙ e))

pub returns : goal.returns
returns c = head_done c.args.case.now c.args.self.now c.requires.sound c.args.x.now c.requires.range
    (sym c.is_head_due.ensures ∙ was_due c.is_head_due.result c.placed.result c.in_ok-placed.field-0 c.placed.ensures c.in_ok-placed.was)
