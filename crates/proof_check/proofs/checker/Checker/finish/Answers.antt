use Rattle.std.proofs.Common.{◌∙◌}
use Rattle.proof_check.proofs.CheckLemmas.{finish_answer}
use Rattle.proof_check.proofs.checker.Checker.finish.Goals as goal

pub returns-clause-answer : goal.returns-clause-answer
returns-clause-answer c = λ bytes s e. c.finish.ensures ∙ finish_answer c.args.self e bytes s
