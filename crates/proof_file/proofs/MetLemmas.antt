-- A reader that met a fault.
use Rattle.std.proofs.Common.{◌≡◌, ◌+◌, List, ◌++◌, length, None, Some, Err, sym, ◌∙◌, ap, ℕ, arith, length-append}
use Rattle.std.proofs.lemmas.List.{append-nil}
use Rattle.proof_file.specs.declared.record.ProofRecord.{ProofRecord}
use Rattle.proof_file.specs.declared.fault.ReaderFault.{ReaderFault}
use Rattle.proof_file.specs.declared.reader.ProofReader.{ProofReader}
use Rattle.proof_file.specs.Reading.{fault_of}
use Rattle.proof_file.specs.Reader.{StandsFor, new_records, told}
use Rattle.proof_file.proofs.PieceLemmas.{fault_stays, none_new}

module _ (r : ProofReader) (bytes piece : List ℕ) (fault : ReaderFault) (s : StandsFor r bytes) (met : r.fault ≡ Some fault) where
  own : fault_of bytes ≡ Some fault
  own = sym s.fault ∙ met

  whole : fault_of (bytes ++ piece) ≡ Some fault
  whole = fault_stays bytes piece fault own

  pub still_stands : StandsFor (record r { fed = r.fed + length piece }) (bytes ++ piece)
  still_stands = record {
    count = omega (arith, s.count, length-append bytes piece);
    fault = met ∙ sym whole;
    at = λ none.
        let apart : Some fault ≡ None = sym whole ∙ none in
        absurd (cc (apart));
  }

  pub told_again : Err fault ≡ told (fault_of (bytes ++ piece))
  told_again = ap told (sym whole)

  pub none_added : (records : List ProofRecord) → records ≡ records ++ new_records bytes piece
  none_added records = sym (append-nil records) ∙ ap (λ l. records ++ l) (sym (none_new bytes piece fault own))
