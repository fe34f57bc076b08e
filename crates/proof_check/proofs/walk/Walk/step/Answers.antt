use Rattle.std.proofs.Common.{rules, subst, sym}
use mir.Syntax.{w128}
use mir.Val.{SFits}
use Rattle.std.proofs.lemmas.Int.{to_z-of_z}
use Rattle.proof_file.specs.declared.record.ProofRecord.{ProofRecord}
use Rattle.proof_rules.specs.Fault.{after}
use Rattle.proof_check.specs.Walk.{IsStep}
use Rattle.proof_check.proofs.walk.Walk.step.Goals as goal

pub returns-in-End : goal.returns-in-End
unfolding after
returns-in-End c =
    let fits : SFits w128 c.in-End.bound = search rules in
    subst (λ (r : ProofRecord). IsStep c.args.case.now c.args.self.now r c.end.new.self c.end.result) (sym c.in-End.is) (simp to_z-of_z at c.end.ensures)

pub returns-in-Nothing : goal.returns-in-Nothing
unfolding after
returns-in-Nothing c =
    subst (λ (r : ProofRecord). IsStep c.args.case.now c.args.self.now r c.end-in-Nothing.new.self c.end-in-Nothing.result) (sym c.in-Nothing.is) c.end-in-Nothing.ensures
