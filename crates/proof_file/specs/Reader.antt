-- Readers of proof files: which bytes one stands for, and what a further piece adds.
use Rattle.std.specs.Prelude.{◌≡◌, false, ℕ, ◌+◌, List, [], ◌∷◌, ◌++◌, length, drop, Option, Some, None, Result, Ok, Err}
use Rattle.proof_file.specs.declared.record.ProofRecord.{ProofRecord}
use Rattle.proof_file.specs.declared.fault.ReaderFault.{ReaderFault}
use Rattle.proof_file.specs.declared.fault.ReaderFault.TheVariants.{Memory, Shape, Number, Cut}
use Rattle.proof_file.specs.declared.lines.LineReader.{LineReader}
use Rattle.proof_file.specs.declared.reader.ProofReader.{ProofReader}
use Rattle.std.specs.List.{list_any}
use Rattle.proof_file.specs.Reading.{is_newline, lines_in, open_line, version_of, records_of, fault_of}

-- the bytes are a part without a newline, a newline, and what stands behind it
pub record IsSplitAtLine (bytes part behind : List ℕ) : Type 0 where
  pub split : bytes ≡ part ++ 10 ∷ behind
  pub plain : list_any is_newline part ≡ false

-- A reader of lines stands at the end of these bytes, in which no line has a fault.
pub record IsAt (r : LineReader) (bytes : List ℕ) : Type 0 where
  pub none : fault_of bytes ≡ None
  pub version : r.version ≡ version_of (lines_in bytes)
  pub number : r.number ≡ length (lines_in bytes) + 1
  pub kept : r.kept ≡ open_line bytes

-- A reader stands for these bytes: it has their count and their fault, and where there is none it stands at their end.
pub record StandsFor (r : ProofReader) (bytes : List ℕ) : Type 0 where
  pub count : r.fed ≡ length bytes
  pub fault : r.fault ≡ fault_of bytes
  pub at : fault_of bytes ≡ None → IsAt r.lines bytes

-- the count of bytes fed
abbrev pub fed_of : ProofReader → ℕ
fed_of r = r.fed

-- the fault that a reader has met
abbrev pub fault_met : ProofReader → Option ReaderFault
fault_met r = r.fault

-- the records of the bytes and the piece without those of the bytes
abbrev pub new_records : List ℕ → List ℕ → List ProofRecord
new_records bytes piece = drop (length (records_of bytes)) (records_of (bytes ++ piece))

-- as a call answers it
abbrev pub told : Option ReaderFault → Result (Unit {0}) ReaderFault
told None = Ok tt
told (Some fault) = Err fault

-- the new list is the old one with the first of these records
pub record AddsFront (old new records : List ProofRecord) : Type 0 where
  pub more : List ProofRecord
  pub rest : List ProofRecord
  pub split : records ≡ more ++ rest
  pub added : new ≡ old ++ more

-- the fault of a line that isn't whole, where the bytes end
abbrev pub cut_at : ℕ → List ℕ → Option ReaderFault
cut_at number [] = None
cut_at number (byte ∷ text) = Some (Cut number)

abbrev pub cut_of : List ℕ → Option ReaderFault
cut_of bytes = cut_at (length (lines_in bytes) + 1) (open_line bytes)

-- what reading on through a piece comes to, for a reader of lines that stood at the end of the bytes
abbrev pub ReadsOn : List ℕ → List ℕ → LineReader → List ProofRecord → List ProofRecord → Result (Unit {0}) ReaderFault → Type 0
ReadsOn bytes piece new old all (Ok done) =
    IsAt new (bytes ++ piece) × (all ≡ old ++ new_records bytes piece)
ReadsOn bytes piece new old all (Err Memory) = AddsFront old all (new_records bytes piece)
ReadsOn bytes piece new old all (Err (Shape number)) =
    (fault_of (bytes ++ piece) ≡ Some (Shape number)) × (all ≡ old ++ new_records bytes piece)
ReadsOn bytes piece new old all (Err (Number number)) =
    (fault_of (bytes ++ piece) ≡ Some (Number number)) × (all ≡ old ++ new_records bytes piece)
ReadsOn bytes piece new old all (Err (Cut number)) = ⊥
