-- Bytes that are the text of records, and bytes that are read whole.
use Rattle.std.specs.Prelude.{◌≡◌, ℕ, List, [], ◌∷◌, ◌++◌, None, Ok, IsTrue}
use Rattle.std.specs.List.{list_all}
use Rattle.proof_file.specs.declared.record.ProofRecord.{ProofRecord}
use Rattle.proof_file.specs.Kind.{line_of, is_in_range, is_of_version}
use Rattle.proof_file.specs.Text.{AreInRange, text_of}
use Rattle.proof_file.specs.Reading.{open_line, version_by, records_of, fault_of}

-- the version that the first record says
abbrev pub version_told : List ProofRecord → ℕ
version_told [] = 1
version_told (r ∷ records) = version_by (Ok r)

-- The bytes are the lines of these records, each of a kind of their version and with its numbers in their ranges.
pub record IsTextOf (bytes : List ℕ) (records : List ProofRecord) : Type 0 where
  pub text : bytes ≡ text_of records
  pub ranges : AreInRange records
  pub versions : IsTrue (list_all (is_of_version (version_told records)) records)

-- The bytes are read as these records, with no fault and to the end.
pub record IsReadAs (bytes : List ℕ) (records : List ProofRecord) : Type 0 where
  pub none : fault_of bytes ≡ None
  pub ended : open_line bytes ≡ []
  pub read : records_of bytes ≡ records

-- The line is the record's, which is of one of the version's kinds and has its numbers in their ranges.
pub record IsLineOf (version : ℕ) (text : List ℕ) (r : ProofRecord) : Type 0 where
  pub whole : text ++ 10 ∷ [] ≡ line_of r
  pub in_range : IsTrue (is_in_range r)
  pub of_version : IsTrue (is_of_version version r)
