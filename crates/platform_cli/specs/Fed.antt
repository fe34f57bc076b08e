-- A checker that is fed a file in pieces.
use Rattle.std.specs.Prelude.{◌≡◌, ℕ, ◌+◌, ◌≤◌, List, length, take, Option, None, Some, IfSome}
use Rattle.pair_prices.specs.Case.{CaseRecord}
use Rattle.proof_rules.specs.declared.refused.ProofRefused.{ProofRefused}
use Rattle.proof_rules.specs.Verdict.{refusal_of}
use Rattle.proof_check.specs.declared.checker.Checker.{Checker}
use Rattle.proof_check.specs.Check.{StandsFor, case_in}
use Rattle.platform_cli.specs.declared.given_proof.Fed.{Fed}
use Rattle.platform_cli.specs.declared.given_proof.Fed.TheVariants.{More, End, Refused}

-- The checker was fed the first bytes of the file, where these are known, and nothing in them is refused.
pub record IsFed (held : Option (List ℕ)) (c : CaseRecord) (checker : Checker) (from : ℕ) : Type 0 where
  pub bytes : List ℕ
  pub case : case_in checker ≡ c
  pub stands : StandsFor checker bytes
  pub fine : refusal_of c bytes ≡ None
  pub count : length bytes ≡ from
  pub front : IfSome held (λ whole. bytes ≡ take from whole)

-- The bytes at the front of the file are refused.
pub record IsRefused (held : Option (List ℕ)) (c : CaseRecord) (refusal : ProofRefused) : Type 0 where
  pub bytes : List ℕ
  pub refused : refusal_of c bytes ≡ Some refusal
  pub front : IfSome held (λ whole. bytes ≡ take (length bytes) whole)

-- A read gave so many bytes more, or the file has ended, or the checker refuses what it was fed.
abbrev pub IsFedOn : Option (List ℕ) → CaseRecord → Checker → ℕ → Fed → Type 0
IsFedOn held c checker from (More count) = (1 ≤ count) × IsFed held c checker (from + count)
IsFedOn held c checker from End = IsFed held c checker from × IfSome held (λ whole. length whole ≤ from)
IsFedOn held c checker from (Refused refusal) = IsRefused held c refusal
