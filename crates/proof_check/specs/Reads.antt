-- How a checker goes through bytes that come in parts.
use Rattle.std.specs.Prelude.{◌≡◌, ℕ, ◌+◌, nat_le, if◌then◌else◌, List, ◌++◌, length, take, Option, Some, None, Result, Ok, Err, Bool, true, false, IsTrue}
use Rattle.std.specs.List.{list_all}
use Rattle.std.specs.Option.{option_or}
use Rattle.std.specs.Result.{result_err}
use Rattle.pair_prices.specs.Case.{CaseRecord}
use Rattle.leaf_bounds.specs.declared.tree.Bound.{Bound}
use Rattle.proof_file.specs.declared.record.ProofRecord.{ProofRecord}
use Rattle.proof_file.specs.declared.fault.ReaderFault.{ReaderFault}
use Rattle.proof_file.specs.declared.fault.ReaderFault.TheVariants.{Memory as NoBytes, Shape as ShapeAt, Number as NumberAt, Cut as CutAt}
use Rattle.proof_file.specs.Kind.{is_in_range}
use Rattle.proof_file.specs.Reader.{StandsFor as IsReaderOf}
use Rattle.proof_file.specs.Reading.{fault_of, lines_in, records_of}
use Rattle.proof_rules.specs.declared.refused.ProofKind.TheVariants.{Shape, Number, Cut, Long}
use Rattle.proof_rules.specs.declared.refused.ProofRefused.{ProofRefused}
use Rattle.proof_rules.specs.Fault.{State}
use Rattle.proof_rules.specs.Verdict.{behind_refusal, refused, standing}
use Rattle.proof_check.specs.declared.reading.Reading.{Reading}
use Rattle.proof_check.specs.declared.refused.CheckFault.{CheckFault}
use Rattle.proof_check.specs.declared.refused.CheckFault.TheVariants.{Memory, Refused}
use Rattle.proof_check.specs.Walk.{is_over, state_of}

-- It comes to what the definition says, or to its refusal.
abbrev pub Goes : Result State ProofRefused → (State → Type 0) → Result (Unit {0}) CheckFault → Type 0
Goes (Ok s) Stands (Ok done) = Stands s
Goes (Ok s) Stands (Err Memory) = Unit {0}
Goes (Ok s) Stands (Err (Refused r)) = ⊥
Goes (Err r) Stands (Ok done) = ⊥
Goes (Err r) Stands (Err Memory) = Unit {0}
Goes (Err r) Stands (Err (Refused x)) = x ≡ r

-- It stands at the end of these bytes, in which nothing is refused.
pub record IsAt (c : CaseRecord) (r : Reading) (bytes : List ℕ) : Type 0 where
  pub reader : IsReaderOf r.reader bytes
  pub number : r.progress.number ≡ length (records_of bytes) + 1
  pub standing : standing c bytes ≡ Ok (state_of r.progress.walk)
  pub clean : fault_of bytes ≡ None

-- it stands at the end of some bytes
abbrev pub IsSomewhere : CaseRecord → Reading → Type 0
IsSomewhere c r = ∥ ((bytes : List ℕ) × IsAt c r bytes) ∥₁

-- what reading a further piece comes to
abbrev pub ReadsOn : CaseRecord → Reading → List ℕ → List ℕ → Result (Unit {0}) CheckFault → Type 0
ReadsOn c r bytes piece (Ok done) = IsAt c r (bytes ++ piece)
ReadsOn c r bytes piece (Err Memory) = Unit {0}
ReadsOn c r bytes piece (Err (Refused x)) = standing c (bytes ++ piece) ≡ Err x

-- the refusal of bytes of which at most so many are read
abbrev pub refusal_within : CaseRecord → ℕ → List ℕ → Option ProofRefused
refusal_within c most bytes =
    option_or (result_err (standing c (take most bytes)))
    (if nat_le most (length bytes) then Some (refused Long (length (lines_in (take most bytes)) + 1)) else None)

-- what reading on comes to, where at most so many bytes are read
abbrev pub ReadsWithin : CaseRecord → ℕ → Reading → List ℕ → List ℕ → Result (Unit {0}) CheckFault → Type 0
ReadsWithin c most r bytes piece (Ok done) = (refusal_within c most (bytes ++ piece) ≡ None) × IsAt c r (bytes ++ piece)
ReadsWithin c most r bytes piece (Err Memory) = Unit {0}
ReadsWithin c most r bytes piece (Err (Refused x)) = refusal_within c most (bytes ++ piece) ≡ Some x

-- Each number of the records is in its field's range.
abbrev pub AreInRange : List ProofRecord → Type 0
AreInRange records = IsTrue (list_all is_in_range records)

-- the reader had no memory
abbrev pub is_no_memory : Result (Unit {0}) ReaderFault → Bool
is_no_memory (Err NoBytes) = true
is_no_memory _ = false

-- a fault of the reader, as one of the file
abbrev pub fault_told : ReaderFault → CheckFault
fault_told NoBytes = Memory
fault_told (ShapeAt number) = Refused (refused Shape number)
fault_told (NumberAt number) = Refused (refused Number number)
fault_told (CutAt number) = Refused (refused Cut number)

-- as a call answers what stands behind the records
abbrev pub told : Option ProofRefused → Result (Unit {0}) CheckFault
told None = Ok tt
told (Some r) = Err (Refused r)

abbrev pub behind_told : State → ℕ → Option ReaderFault → List ℕ → Result (Unit {0}) CheckFault
behind_told s number fault text = told (behind_refusal s number fault text)

-- what the bytes so far come to, where no more follow
abbrev pub finished : Reading → Result Bound CheckFault
finished r = if is_over r.progress.walk.stage then Ok r.progress.walk.least else Err (Refused (refused Cut r.progress.number))
