-- What the bytes of a proof file come to: a bound, or the first record that is refused.
use Rattle.std.specs.Prelude.{ℕ, ◌+◌, ◌^◌, Bool, true, false, nat_le, if◌then◌else◌, List, [], ◌∷◌, length, take, Option, Some, None, Result, Ok, Err}
use Rattle.std.specs.Option.{option_or}
use Rattle.std.specs.Result.{result_err}
use Rattle.pair_prices.specs.Case.{CaseRecord}
use Rattle.leaf_bounds.specs.declared.tree.Bound.{Bound}
use Rattle.proof_file.specs.declared.record.ProofRecord.{ProofRecord}
use Rattle.proof_file.specs.declared.fault.ReaderFault.{ReaderFault}
use Rattle.proof_file.specs.declared.fault.ReaderFault.TheVariants.{Memory as NoMemory, Shape as ShapeAt, Number as NumberAt, Cut as CutAt}
use Rattle.proof_file.specs.Reading.{lines_in, open_line, records_of, fault_of}
use Rattle.proof_rules.specs.Fault.{Fault, place, part, pair, pattern, bound, sum, State, start, after}
use Rattle.proof_rules.specs.declared.refused.ProofKind.{ProofKind}
use Rattle.proof_rules.specs.declared.refused.ProofKind.TheVariants.{Shape, Number, Place, Part, Pair, Pattern, End, Trail, Cut, Long, Sum}
use Rattle.proof_rules.specs.declared.refused.ProofRefused.{ProofRefused}

abbrev pub kind_of : Fault → ProofKind
kind_of place = Place
kind_of part = Part
kind_of pair = Pair
kind_of pattern = Pattern
kind_of bound = End
kind_of sum = Sum

abbrev pub refused : ProofKind → ℕ → ProofRefused
refused kind number = record { kind = kind; at = number }

abbrev pub judged : ℕ → Result State Fault → Result State ProofRefused
judged number (Ok s) = Ok s
judged number (Err fault) = Err (refused (kind_of fault) number)

-- What the record of this number leads to. Behind the last record everything is refused.
unfoldable pub one_on : CaseRecord → State → ℕ → ProofRecord → Result State ProofRefused
one_on c s number r = if s.is_over then Err (refused Trail number) else judged number (after c s r)

abbrev pub going_on : Result State ProofRefused → (State → Result State ProofRefused) → Result State ProofRefused
going_on (Err r) rest = Err r
going_on (Ok s) rest = rest s

-- what all these records lead to, numbered from here on, or the first that is refused
abbrev pub walked : CaseRecord → State → ℕ → List ProofRecord → Result State ProofRefused
walked c s number [] = Ok s
walked c s number (r ∷ records) = going_on (one_on c s number r) (λ t. walked c t (number + 1) records)

-- Something stands behind the records: a line that is none, or one that isn't whole.
abbrev pub is_more : Option ReaderFault → List ℕ → Bool
is_more (Some fault) text = true
is_more None [] = false
is_more None (byte ∷ text) = true

-- the refusal of a line that is no record
abbrev pub line_refusal : Option ReaderFault → Option ProofRefused
line_refusal (Some (ShapeAt number)) = Some (refused Shape number)
line_refusal (Some (NumberAt number)) = Some (refused Number number)
line_refusal (Some (CutAt number)) = Some (refused Cut number)
line_refusal (Some NoMemory) = None
line_refusal None = None

-- what stands behind the records, where they leave this to do
abbrev pub behind_refusal : State → ℕ → Option ReaderFault → List ℕ → Option ProofRefused
behind_refusal s number fault text =
    if s.is_over then (if is_more fault text then Some (refused Trail number) else None) else line_refusal fault

abbrev pub unless_refused : State → Option ProofRefused → Result State ProofRefused
unless_refused s None = Ok s
unless_refused s (Some r) = Err r

-- what the bytes lead to, or the first record of theirs that is refused
unfoldable pub standing : CaseRecord → List ℕ → Result State ProofRefused
standing c bytes =
    going_on (walked c start 1 (records_of bytes))
    (λ s. unless_refused s (behind_refusal s (length (records_of bytes) + 1) (fault_of bytes) (open_line bytes)))

abbrev pub concluded : ℕ → Result State ProofRefused → Result Bound ProofRefused
concluded number (Err r) = Err r
concluded number (Ok s) = if s.is_over then Ok s.least else Err (refused Cut number)

-- The bound, or the first record that is refused; where the bytes end before the last record does, that is the one that isn't
-- whole.
unfoldable pub verdict : CaseRecord → List ℕ → Result Bound ProofRefused
verdict c bytes = concluded (length (records_of bytes) + 1) (standing c bytes)

-- A proof has fewer bytes.
unfoldable pub most_bytes : ℕ
most_bytes = 2 ^ 63

-- the refusal at bytes that go on for so long
abbrev pub long_refusal : List ℕ → Option ProofRefused
long_refusal bytes = if nat_le most_bytes (length bytes) then Some (refused Long (length (lines_in (take most_bytes bytes)) + 1)) else None

-- The first refusal of bytes that may go on: of the first 2^63 of them, and else that they are as many.
unfoldable pub refusal_of : CaseRecord → List ℕ → Option ProofRefused
refusal_of c bytes = option_or (result_err (standing c (take most_bytes bytes))) (long_refusal bytes)

abbrev pub unless_told : Option ProofRefused → Result Bound ProofRefused → Result Bound ProofRefused
unless_told None said = said
unless_told (Some r) said = Err r

-- What a file is read as: the refusal that comes first, or else the bound.
unfoldable pub proof_reading : CaseRecord → List ℕ → Result Bound ProofRefused
proof_reading c bytes = unless_told (refusal_of c bytes) (verdict c bytes)
