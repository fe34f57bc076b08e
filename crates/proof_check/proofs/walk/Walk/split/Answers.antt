use Rattle.std.proofs.Common.{◌≡◌, sym, ◌∙◌}
use Rattle.proof_file.specs.declared.record.ProofRecord.TheVariants.{Split}
use Rattle.proof_rules.specs.Fault.{after}
use Rattle.proof_check.specs.Walk.{IsSound, state_of}
use Rattle.proof_check.proofs.TableLemmas.{was_due}
use Rattle.proof_check.proofs.WalkSteps.{refuses}
use Rattle.proof_check.proofs.NodeSteps.{split_refused, split_stops, list_ascends, split_done, train_there}
use Rattle.proof_check.proofs.walk.Walk.split.Goals as goal

pub returns-in_err-placed : goal.returns-in_err-placed
returns-in_err-placed c =
    refuses (after c.args.case.now (state_of c.args.self.now) (Split c.args.cut.now)) (λ s. (state_of c.args.self.now ≡ s) × IsSound c.args.case.now c.args.self.now)
    c.is_split_due.result c.placed.result c.from_residual.result c.in_err-placed.field-0.0 c.placed.ensures c.in_err-placed.was c.from_residual.ensures.1
    (λ e. split_refused c.args.case.now c.args.self.now c.requires c.args.cut.now (λ s. (state_of c.args.self.now ≡ s) × IsSound c.args.case.now c.args.self.now) (sym c.is_split_due.ensures ∙ e))

pub returns-in_err-split : goal.returns-in_err-split
returns-in_err-split c =
    split_stops c.args.case.now c.args.self.now c.requires c.args.cut.now c.split.new.self (λ s. (state_of (record c.args.self.now { splits = c.split.new.self }) ≡ s)
    × IsSound c.args.case.now (record c.args.self.now { splits = c.split.new.self }))
    c.from_residual-in_err-split.result c.in_err-split.field-0.0 c.from_residual-in_err-split.ensures.1
    (sym c.is_split_due.ensures ∙ was_due c.is_split_due.result c.placed.result c.in_ok-placed.field-0 c.placed.ensures c.in_ok-placed.was) c.in_err-split.ensures.divided

pub split-requires-clause-train : goal.split-requires-clause-train
split-requires-clause-train c =
    train_there c.args.case.now c.args.self.now c.requires c.args.cut.now (sym c.is_split_due.ensures ∙ was_due c.is_split_due.result c.placed.result c.in_ok-placed.field-0 c.placed.ensures c.in_ok-placed.was)

pub split-requires-clause-ascends : goal.split-requires-clause-ascends
split-requires-clause-ascends c =
    list_ascends c.args.case.now c.args.self.now c.requires c.args.cut.now (sym c.is_split_due.ensures ∙ was_due c.is_split_due.result c.placed.result c.in_ok-placed.field-0 c.placed.ensures c.in_ok-placed.was)

pub returns : goal.returns
returns c =
    split_done c.args.case.now c.args.self.now c.requires c.args.cut.now c.split.new.self
    (sym c.is_split_due.ensures ∙ was_due c.is_split_due.result c.placed.result c.in_ok-placed.field-0 c.placed.ensures c.in_ok-placed.was)
    c.in_ok-split.ensures.divided c.in_ok-split.ensures.open
