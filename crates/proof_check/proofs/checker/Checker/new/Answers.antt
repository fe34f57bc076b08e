use Rattle.std.proofs.Common.{ap, sym}
use Rattle.std.specs.Option.{option_map}
use Rattle.proof_check.specs.declared.refused.CheckFault.TheVariants.{Refused}
use Rattle.proof_check.proofs.CheckLemmas.{none_refused}
use Rattle.proof_check.proofs.checker.Checker.new.Goals as goal

pub returns-clause-stands : goal.returns-clause-stands
returns-clause-stands c = record {
  fault = ap (option_map Refused) (sym (none_refused c.args.case.now));
  at = λ q. c.in_ok-new.ensures.at;
}
