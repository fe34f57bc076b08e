use Rattle.std.proofs.Common.{◌-◌, ◌≤◌, Some, length}
use Rattle.proof_check.specs.Check.{case_in}
use Rattle.platform_cli.specs.Fed.{IsFed}
use Rattle.platform_cli.proofs.given_proof.check_text_by_pieces.Given as goal

abbrev pub invariant-loop-from : goal.invariant-loop-from
invariant-loop-from l = record {
  fed : IsFed (Some l.text) (case_in l.fn.checker) l.checker l.from;
  within : l.from ≤ length l.text;
}

abbrev pub decreases-loop-from : goal.decreases-loop-from
decreases-loop-from l = length l.text - l.from
