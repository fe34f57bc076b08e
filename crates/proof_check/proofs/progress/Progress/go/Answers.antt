use Rattle.std.proofs.Common.{◌≡◌, sym, subst, Err}
use Rattle.proof_rules.specs.Verdict.{one_on}
use Rattle.proof_check.specs.declared.refused.CheckFault.{CheckFault}
use Rattle.proof_check.specs.Reads.{Goes}
use Rattle.proof_check.specs.Walk.{state_of}
use Rattle.proof_check.proofs.GoLemmas.{over_refused, step_goes, step_stops}
use Rattle.proof_check.proofs.progress.Progress.go.Goals as goal

pub returns-then-is_over-clause-walked : goal.returns-then-is_over-clause-walked
returns-then-is_over-clause-walked c =
    subst (λ (f : CheckFault). Goes (one_on c.args.case.now (state_of c.args.self.now.walk) c.args.self.now.number c.args.read.now)
    (λ s. state_of c.args.self.now.walk ≡ s) (Err f)) (sym c.refused.ensures)
    (over_refused c.args.case.now (state_of c.args.self.now.walk) c.args.self.now.number c.args.read.now (λ s. state_of c.args.self.now.walk ≡ s)
    (sym c.if-is_over.ensures))

pub returns-in-Err-clause-walked : goal.returns-in-Err-clause-walked
returns-in-Err-clause-walked c =
    step_stops c.args.case.now c.args.self.now.walk c.step.new.self c.args.self.now.number c.args.read.now (sym c.if-is_over.ensures) c.in-Err.stop c.at.result
    c.at.ensures c.in-Err.ensures

pub returns-clause-walked : goal.returns-clause-walked
returns-clause-walked c =
    step_goes c.args.case.now c.args.self.now.walk c.step.new.self c.args.self.now.number c.args.read.now (sym c.if-is_over.ensures) c.in_default.ensures
