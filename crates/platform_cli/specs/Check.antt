-- What `check` gives for the proof of a station.
use Rattle.std.specs.Prelude.{◌≡◌, ℕ, Bool, List, Option, Some, None, Result, Ok, Err}
use Rattle.command_words.specs.Command.{CheckView}
use Rattle.pair_prices.specs.Case.{CaseRecord}
use Rattle.pair_prices.specs.Plan.{cost}
use Rattle.leaf_bounds.specs.declared.tree.Bound.{Bound}
use Rattle.proof_rules.specs.declared.refused.ProofRefused.{ProofRefused}
use Rattle.platform_cli.specs.Given.{Outcome, text_outcome}
use Rattle.platform_cli.specs.Instance.{Held, IsProof}
use Rattle.platform_cli.specs.Judge.{IsJudgedFile}
use Rattle.platform_cli.specs.Report.{accepted_text, checked_text, proof_refused_text}

-- The bound alone is given, or beside it the cost of a plan.
abbrev pub IsBoundGiven : Bool → Held → Option (List ℕ) → CaseRecord → Bound → Outcome → Type 0
IsBoundGiven tells held None c bound outcome = outcome ≡ text_outcome 0 (accepted_text bound)
IsBoundGiven tells held (Some name) c bound outcome = IsJudgedFile tells held name (λ plan. checked_text bound (cost c plan)) c outcome

-- Of a proof that isn't accepted the first refusal is given.
abbrev pub IsCheckedReading : Bool → Held → Option (List ℕ) → CaseRecord → Result Bound ProofRefused → Outcome → Type 0
IsCheckedReading tells held plan c (Ok bound) outcome = IsBoundGiven tells held plan c bound outcome
IsCheckedReading tells held plan c (Err refusal) outcome = outcome ≡ text_outcome 5 (proof_refused_text refusal)

abbrev pub IsCheckedFile : Bool → Held → CheckView → CaseRecord → Outcome → Type 0
IsCheckedFile tells held words c outcome =
    (read : Result Bound ProofRefused) × IsProof tells held words.proof c read × IsCheckedReading tells held words.plan c read outcome
