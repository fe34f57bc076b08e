-- What the bytes of a proof file are read as, line by line.
use Rattle.std.specs.Prelude.{ℕ, ◌+◌, ◌==◌, Bool, nat_lt, if◌then◌else◌, List, [], ◌∷◌, length, Option, Some, None, Result, Ok, Err, ℤ, unwrap_or}
use Rattle.std.specs.Option.{option_map, option_or}
use Rattle.std.specs.List.{list_any}
use Rattle.record_table.specs.declared.kind.Range.{Range}
use Rattle.record_table.specs.declared.read.RecordFault.{RecordFault}
use Rattle.record_table.specs.declared.read.RecordFault.TheVariants.{Word, Shape as WrongShape, Number as WrongNumber}
use Rattle.record_table.specs.Judge.{answer_for}
use Rattle.proof_file.specs.declared.record.ProofRecord.{ProofRecord}
use Rattle.proof_file.specs.declared.record.ProofRecord.TheVariants.{Head}
use Rattle.proof_file.specs.declared.fault.LineFault.{LineFault}
use Rattle.proof_file.specs.declared.fault.LineFault.TheVariants.{Shape, Number}
use Rattle.proof_file.specs.declared.fault.ReaderFault.{ReaderFault}
use Rattle.proof_file.specs.declared.fault.ReaderFault.TheVariants.{Shape as ShapeAt, Number as NumberAt}
use Rattle.proof_file.specs.Kind.{RecordKind, kinds_of}

-- what a reading of a line as one kind says; nothing, where the line has another word
abbrev pub answered : Result (List ℤ) RecordFault → Option (Result (List ℤ) LineFault)
answered (Ok values) = Some (Ok values)
answered (Err Word) = None
answered (Err WrongShape) = Some (Err Shape)
answered (Err WrongNumber) = Some (Err Number)

abbrev pub numbers_in : ℕ → List ℕ → List Range → List ℕ → Option (Result (List ℤ) LineFault)
numbers_in count word ranges text = answered (answer_for count word ranges text)

abbrev pub made_of : RecordKind → Result (List ℤ) LineFault → Result ProofRecord LineFault
made_of k (Ok values) = Ok (k.make values)
made_of k (Err fault) = Err fault

-- the record of this kind that a line is, or what is wrong with it
abbrev pub answer_in : RecordKind → List ℕ → Option (Result ProofRecord LineFault)
answer_in k text = option_map (made_of k) (numbers_in (length k.ranges) k.word k.ranges text)

-- what the kind says that has the line's word, if there is one
abbrev pub answer_by : List RecordKind → List ℕ → Option (Result ProofRecord LineFault)
answer_by [] text = None
answer_by (k ∷ kinds) text = option_or (answer_in k text) (answer_by kinds text)

-- A line has at most 80 bytes before its newline. It is a record of one of the version's kinds: `Shape` where it is too
-- long, has none of their words, or isn't spelt as a record of its word, and `Number` where one of its numbers is out of
-- its range.
unfoldable pub line_read : ℕ → List ℕ → Result ProofRecord LineFault
line_read version text =
    if nat_lt 80 (length text) then Err Shape else unwrap_or (answer_by (kinds_of version) text) (Err Shape)

abbrev pub is_newline : ℕ → Bool
is_newline byte = byte == 10

-- one more byte in front of the first line
abbrev pub with_byte : ℕ → List (List ℕ) → List (List ℕ)
with_byte byte [] = []
with_byte byte (text ∷ lines) = (byte ∷ text) ∷ lines

-- the lines of the bytes, each without its newline
abbrev pub lines_in : List ℕ → List (List ℕ)
lines_in [] = []
lines_in (byte ∷ bytes) = if is_newline byte then [] ∷ lines_in bytes else with_byte byte (lines_in bytes)

-- the bytes behind the last newline: a line that isn't whole
abbrev pub open_line : List ℕ → List ℕ
open_line [] = []
open_line (byte ∷ bytes) = if list_any is_newline (byte ∷ bytes) then open_line bytes else byte ∷ bytes

abbrev pub version_by : Result ProofRecord LineFault → ℕ
version_by (Ok (Head x)) = x.version
version_by _ = 1

-- The version is that of record 1 if it is a `tpp-proof` record. All else is read as version 1.
abbrev pub version_of : List (List ℕ) → ℕ
version_of [] = 1
version_of (text ∷ lines) = version_by (line_read 1 text)

-- the version once the record of this number was read
abbrev pub version_after : ℕ → ℕ → ProofRecord → ℕ
version_after number version (Head x) = if number == 1 then x.version else version
version_after number version _ = version

-- a record and those behind it, up to the first fault
abbrev pub with_record : Result ProofRecord LineFault → List ProofRecord → List ProofRecord
with_record (Ok r) records = r ∷ records
with_record (Err fault) records = []

abbrev pub records_in : ℕ → List (List ℕ) → List ProofRecord
records_in version [] = []
records_in version (text ∷ lines) = with_record (line_read version text) (records_in version lines)

-- the fault of the line of this number
abbrev pub fault_at : ℕ → LineFault → ReaderFault
fault_at number Shape = ShapeAt number
fault_at number Number = NumberAt number

abbrev pub with_fault : ℕ → Result ProofRecord LineFault → Option ReaderFault → Option ReaderFault
with_fault number (Ok r) rest = rest
with_fault number (Err fault) rest = Some (fault_at number fault)

-- the first fault of lines that are numbered from here on
abbrev pub fault_in : ℕ → ℕ → List (List ℕ) → Option ReaderFault
fault_in version number [] = None
fault_in version number (text ∷ lines) = with_fault number (line_read version text) (fault_in version (number + 1) lines)

-- The 81st byte of a line refuses it, with a newline or without.
abbrev pub length_fault : ℕ → List ℕ → Option ReaderFault
length_fault number text = if nat_lt 80 (length text) then Some (ShapeAt number) else None

-- the records of the bytes: those of all whole lines before the first fault
unfoldable pub records_of : List ℕ → List ProofRecord
records_of bytes = records_in (version_of (lines_in bytes)) (lines_in bytes)

-- the first fault of the bytes; lines are numbered from 1
unfoldable pub fault_of : List ℕ → Option ReaderFault
fault_of bytes =
    option_or (fault_in (version_of (lines_in bytes)) 1 (lines_in bytes)) (length_fault (length (lines_in bytes) + 1) (open_line bytes))
