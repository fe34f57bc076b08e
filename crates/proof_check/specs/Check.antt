-- Checkers: which bytes one stands for, and what its calls answer.
use Rattle.std.specs.Prelude.{◌≡◌, ℕ, List, Option, None, Result, Ok, Err}
use Rattle.std.specs.Option.{option_map}
use Rattle.pair_prices.specs.Case.{CaseRecord}
use Rattle.leaf_bounds.specs.declared.tree.Bound.{Bound}
use Rattle.proof_rules.specs.declared.refused.ProofRefused.{ProofRefused}
use Rattle.proof_rules.specs.Verdict.{refusal_of}
use Rattle.proof_check.specs.declared.checker.Checker.{Checker}
use Rattle.proof_check.specs.declared.refused.CheckFault.{CheckFault}
use Rattle.proof_check.specs.declared.refused.CheckFault.TheVariants.{Refused}
use Rattle.proof_check.specs.Reads.{IsAt}

-- the case that is checked for
abbrev pub case_in : Checker → CaseRecord
case_in k = k.case.now

-- the fault that a checker has met
abbrev pub fault_met : Checker → Option CheckFault
fault_met k = k.fault

-- A checker stands for these bytes: it has met their refusal, and where there is none it stands at their end.
pub record StandsFor (k : Checker) (bytes : List ℕ) : Type 0 where
  pub fault : k.fault ≡ option_map Refused (refusal_of (case_in k) bytes)
  pub at : refusal_of (case_in k) bytes ≡ None → IsAt (case_in k) k.reading bytes

-- as `finish` and `check_proof` answer
abbrev pub answered : Result Bound ProofRefused → Result Bound CheckFault
answered (Ok bound) = Ok bound
answered (Err r) = Err (Refused r)
