use Rattle.platform_cli.proofs.FedSteps.{begun}
use Rattle.platform_cli.proofs.given_proof.read_given_proof.Goals as goal

pub check_by_pieces-requires-clause-fed : goal.check_by_pieces-requires-clause-fed
check_by_pieces-requires-clause-fed g c = λ held. begun held c.in_ok-checker.checker c.in_ok-checker.ensures.stands
