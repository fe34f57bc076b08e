use Rattle.proof_check.proofs.ReadSteps.{begins}
use Rattle.proof_check.proofs.reading.Reading.new.Goals as goal

pub returns-clause-at : goal.returns-clause-at
returns-clause-at c = begins c.args.case.now _ c.new.ensures c.in_ok-new.ensures.number c.in_ok-new.ensures.state
