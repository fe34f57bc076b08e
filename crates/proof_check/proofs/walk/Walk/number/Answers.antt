use Rattle.std.proofs.Common.{◌≡◌, sym, subst, Result}
use Rattle.proof_rules.specs.Fault.{after}
use Rattle.proof_check.specs.declared.stop.Stop.{Stop}
use Rattle.proof_check.specs.Going.{Follows}
use Rattle.proof_check.specs.Walk.{IsSound, state_of}
use Rattle.proof_check.proofs.NodeSteps.{leaf_fits, number_refused, number_step}
use Rattle.proof_check.proofs.walk.Walk.number.Goals as goal

pub returns-in_default : goal.returns-in_default
returns-in_default c =
    subst (λ (r : Result (Unit {0}) Stop). Follows (after c.args.case.now (state_of c.args.self.now) c.args.read.now)
    (λ s. (state_of c.args.self.now ≡ s) × IsSound c.args.case.now c.args.self.now) r) (sym c.placed.ensures)
    (number_refused c.args.case.now c.args.self.now c.requires.sound c.args.read.now
    (λ s. (state_of c.args.self.now ≡ s) × IsSound c.args.case.now c.args.self.now) c.requires.number c.in_default.is)

pub push-requires-clause-fits : goal.push-requires-clause-fits
push-requires-clause-fits c = leaf_fits c.args.case.now c.args.self.now c.requires.sound c.in-Some.leaf c.in-Some.is

pub push-requires-clause-leaf : goal.push-requires-clause-leaf
push-requires-clause-leaf c = c.requires.sound.leaf c.in-Some.leaf c.in-Some.is

pub returns : goal.returns
returns c =
    number_step c.args.case.now c.args.self.now c.requires.sound c.in-Some.leaf c.push.new.self c.args.read.now c.push.result c.in-Some.is c.requires.number c.push.ensures
