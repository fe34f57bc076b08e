use Rattle.std.proofs.Common.{Some}
use Rattle.platform_cli.proofs.FedSteps.{begun}
use Rattle.platform_cli.proofs.given_proof.check_text.Goals as goal

pub check_text_by_pieces-requires : goal.check_text_by_pieces-requires
check_text_by_pieces-requires c = record { fed = begun (Some c.args.text.now) c.in_ok-checker.checker c.in_ok-checker.ensures.stands }
