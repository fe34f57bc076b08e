-- Pieces that come one after the other, and what stays after a fault.
use Rattle.std.proofs.Common.{◌≡◌, ℕ, ◌+◌, ◌<◌, ◌≤◌, ◌^◌, Bool, true, false, cond, nat_lt, List, [], ◌∷◌, ◌++◌, length, None, Some, Option, Result, Ok, Err, refl, sym, ◌∙◌, ap, subst, arith, append_assoc, length-append}
use Rattle.std.specs.Prelude.{IsErrAnd}
use Rattle.std.specs.Option.{option_or}
use Rattle.std.specs.List.{list_any}
use Rattle.std.proofs.lemmas.List.{append-nil}
use borrow.Author.Tests.{lt-ltb, ltb-true}
use Rattle.proof_file.specs.declared.record.ProofRecord.{ProofRecord}
use Rattle.proof_file.specs.declared.fault.LineFault.TheVariants.{Shape}
use Rattle.proof_file.specs.declared.fault.ReaderFault.{ReaderFault}
use Rattle.proof_file.specs.declared.fault.ReaderFault.TheVariants.{Memory, Shape as ShapeAt, Number as NumberAt, Cut}
use Rattle.proof_file.specs.declared.lines.LineReader.{LineReader}
use Rattle.proof_file.specs.Reading.{is_newline, line_read, lines_in, open_line, version_of, with_record, records_in, with_fault, fault_in, length_fault, records_of, fault_of}
use Rattle.proof_file.specs.Reader.{IsAt, IsSplitAtLine, new_records, ReadsOn}
use Rattle.proof_file.proofs.CutLemmas.{open_plain, open_is_plain, lines-append, open-append, first_line, some_line}
use Rattle.proof_file.proofs.LineLemmas.{long_line}
use Rattle.proof_file.proofs.ReaderLemmas.{records-append, records_stay, fault-append, fault_kept, records_kept, clean_lines, new_is}

-- what a fault leaves of further bytes
record Stays (bytes piece : List ℕ) (fault : ReaderFault) : Type 0 where
  same : fault_of (bytes ++ piece) ≡ Some fault
  records : records_of (bytes ++ piece) ≡ records_of bytes

no_line : (bytes : List ℕ) → lines_in bytes ≡ [] → open_line bytes ≡ bytes
no_line bytes e = by_test (list_any is_newline bytes) refl
  where
    by_test : (b : Bool) → list_any is_newline bytes ≡ b → open_line bytes ≡ bytes
    by_test true f = absurd (omega (arith, some_line bytes f, ap length e))
    by_test false f = open_plain bytes f

module _ (bytes piece : List ℕ) where
  abbrev old_lines : List (List ℕ)
  old_lines = lines_in bytes

  abbrev more_lines : List (List ℕ)
  more_lines = lines_in (open_line bytes ++ piece)

  abbrev whole_version : ℕ
  whole_version = version_of (lines_in bytes ++ lines_in (open_line bytes ++ piece))

  whole_fault : fault_of (bytes ++ piece)
      ≡ option_or (option_or (fault_in (version_of old_lines) 1 old_lines) (fault_in whole_version (1 + length old_lines) more_lines))
      (length_fault (length (old_lines ++ more_lines) + 1) (open_line (open_line bytes ++ piece)))
  unfolding fault_of
  whole_fault =
      ap (λ ls. option_or (fault_in (version_of ls) 1 ls) (length_fault (length ls + 1) (open_line (bytes ++ piece)))) (lines-append bytes piece)
      ∙ ap (λ l. option_or (fault_in whole_version 1 (old_lines ++ more_lines)) (length_fault (length (old_lines ++ more_lines) + 1) l)) (open-append bytes piece)
      ∙ ap (λ o. option_or o (length_fault (length (old_lines ++ more_lines) + 1) (open_line (open_line bytes ++ piece))))
      (fault-append whole_version 1 old_lines more_lines
      ∙ ap (λ o. option_or o (fault_in whole_version (1 + length old_lines) more_lines)) (fault_kept old_lines more_lines))

  -- where the old lines have a fault
  stays_first : (fault : ReaderFault) → fault_in (version_of old_lines) 1 old_lines ≡ Some fault → Stays bytes piece fault
  unfolding records_of
  stays_first fault e = record {
    same = whole_fault
        ∙ ap (λ o. option_or (option_or o (fault_in whole_version (1 + length old_lines) more_lines))
        (length_fault (length (old_lines ++ more_lines) + 1) (open_line (open_line bytes ++ piece)))) e;
    records = ap (λ ls. records_in (version_of ls) ls) (lines-append bytes piece)
        ∙ records_stay whole_version 1 old_lines more_lines fault (fault_kept old_lines more_lines ∙ e) ∙ records_kept old_lines more_lines;
  }

  -- where they have none
  module _ (none : fault_in (version_of old_lines) 1 old_lines ≡ None) where
    new_fault : fault_of (bytes ++ piece) ≡ option_or (fault_in whole_version (1 + length old_lines) more_lines)
        (length_fault (length (old_lines ++ more_lines) + 1) (open_line (open_line bytes ++ piece)))
    new_fault =
        whole_fault
        ∙ ap (λ o. option_or (option_or o (fault_in whole_version (1 + length old_lines) more_lines))
        (length_fault (length (old_lines ++ more_lines) + 1) (open_line (open_line bytes ++ piece)))) none

    new_all : records_of (bytes ++ piece) ≡ records_of bytes ++ records_in whole_version more_lines
    unfolding records_of
    new_all =
        ap (λ ls. records_in (version_of ls) ls) (lines-append bytes piece)
        ∙ records-append whole_version 1 old_lines more_lines (fault_kept old_lines more_lines ∙ none)
        ∙ ap (λ l. l ++ records_in whole_version more_lines) (records_kept old_lines more_lines)

    -- and the line that isn't whole is too long
    stays_long : 80 < length (open_line bytes) → Stays bytes piece (ShapeAt (length old_lines + 1))
    stays_long long = by_lines more_lines refl
      where
        one : (n : ℕ) → 1 + n ≡ n + 1
        one n = omega arith

        by_lines : (more : List (List ℕ)) → more_lines ≡ more → Stays bytes piece (ShapeAt (length old_lines + 1))
        by_lines [] e = record {
          same = new_fault
              ∙ ap (λ ls. option_or (fault_in whole_version (1 + length old_lines) ls) (length_fault (length (old_lines ++ ls) + 1) (open_line (open_line bytes ++ piece)))) e
              ∙ ap (λ ls. length_fault (length ls + 1) (open_line (open_line bytes ++ piece))) (append-nil old_lines)
              ∙ ap (length_fault (length old_lines + 1)) (no_line (open_line bytes ++ piece) e)
              ∙ ap (λ b. cond b (Some (ShapeAt (length old_lines + 1))) None)
              (lt-ltb 80 (length (open_line bytes ++ piece)) (omega (arith, long, length-append (open_line bytes) piece)));
          records = new_all ∙ ap (λ ls. records_of bytes ++ records_in whole_version ls) e ∙ append-nil (records_of bytes);
        }
        by_lines (text ∷ more) e =
            let wrong : line_read whole_version text ≡ Err Shape =
            long_line whole_version text (omega (arith, long, first_line (open_line bytes) piece text more (open_is_plain bytes) e)) in
            record {
              same = new_fault
                  ∙ ap (λ ls. option_or (fault_in whole_version (1 + length old_lines) ls) (length_fault (length (old_lines ++ ls) + 1) (open_line (open_line bytes ++ piece)))) e
                  ∙ ap (λ r. option_or (with_fault (1 + length old_lines) r (fault_in whole_version (1 + length old_lines + 1) more))
                  (length_fault (length (old_lines ++ text ∷ more) + 1) (open_line (open_line bytes ++ piece)))) wrong
                  ∙ ap (λ n. Some (ShapeAt n)) (one (length old_lines));
              records = new_all ∙ ap (λ ls. records_of bytes ++ records_in whole_version ls) e
                  ∙ ap (λ r. records_of bytes ++ with_record r (records_in whole_version more)) wrong ∙ append-nil (records_of bytes);
            }

-- A fault stays, and no record is added.
stays : (bytes piece : List ℕ) (fault : ReaderFault) → fault_of bytes ≡ Some fault → Stays bytes piece fault
unfolding fault_of
stays bytes piece fault e = by_first (fault_in (version_of (lines_in bytes)) 1 (lines_in bytes)) refl e
  where
    by_length : fault_in (version_of (lines_in bytes)) 1 (lines_in bytes) ≡ None → (b : Bool) → nat_lt 80 (length (open_line bytes)) ≡ b
        → cond b (Some (ShapeAt (length (lines_in bytes) + 1))) None ≡ Some fault → Stays bytes piece fault
    by_length none true f g =
        let same : ShapeAt (length (lines_in bytes) + 1) ≡ fault = cc in
        subst (Stays bytes piece) same (stays_long bytes piece none (ltb-true 80 (length (open_line bytes)) f))
    by_length none false f g = absurd (cc g)

    by_first : (o : Option ReaderFault) → fault_in (version_of (lines_in bytes)) 1 (lines_in bytes) ≡ o
        → option_or o (length_fault (length (lines_in bytes) + 1) (open_line bytes)) ≡ Some fault → Stays bytes piece fault
    by_first None f g = by_length f (nat_lt 80 (length (open_line bytes))) refl g
    by_first (Some other) f g =
        let same : other ≡ fault = cc in
        subst (Stays bytes piece) same (stays_first bytes piece other f)

pub fault_stays : (bytes piece : List ℕ) (fault : ReaderFault) → fault_of bytes ≡ Some fault → fault_of (bytes ++ piece) ≡ Some fault
fault_stays bytes piece fault e = (stays bytes piece fault e).same

pub none_new : (bytes piece : List ℕ) (fault : ReaderFault) → fault_of bytes ≡ Some fault → new_records bytes piece ≡ []
none_new bytes piece fault e = new_is bytes piece [] ((stays bytes piece fault e).records ∙ sym (append-nil (records_of bytes)))

-- the records of the bytes stand in front of those of more bytes
pub records-split : (bytes piece : List ℕ) → records_of (bytes ++ piece) ≡ records_of bytes ++ new_records bytes piece
records-split bytes piece = by_fault (fault_of bytes) refl
  where
    given : (more : List ProofRecord) → records_of (bytes ++ piece) ≡ records_of bytes ++ more → records_of (bytes ++ piece) ≡ records_of bytes ++ new_records bytes piece
    given more e = e ∙ ap (λ l. records_of bytes ++ l) (sym (new_is bytes piece more e))

    by_fault : (o : Option ReaderFault) → fault_of bytes ≡ o → records_of (bytes ++ piece) ≡ records_of bytes ++ new_records bytes piece
    by_fault None e = given (records_in (whole_version bytes piece) (more_lines bytes piece)) (new_all bytes piece (clean_lines bytes e))
    by_fault (Some fault) e = given [] ((stays bytes piece fault e).records ∙ sym (append-nil (records_of bytes)))

-- the new records of two pieces
pub new-append : (bytes front piece : List ℕ) → new_records bytes (front ++ piece) ≡ new_records bytes front ++ new_records (bytes ++ front) piece
new-append bytes front piece =
    new_is bytes (front ++ piece) (new_records bytes front ++ new_records (bytes ++ front) piece)
    (ap records_of (sym (append_assoc bytes front piece)) ∙ records-split (bytes ++ front) piece
    ∙ ap (λ l. l ++ new_records (bytes ++ front) piece) (records-split bytes front)
    ∙ append_assoc (records_of bytes) (new_records bytes front) (new_records (bytes ++ front) piece))

-- how far a piece was read: what stands in front is read, and the rest isn't
pub record Through (bytes piece rest : List ℕ) (r : LineReader) (old all : List ProofRecord) : Type 0 where
  pub front : List ℕ
  pub split : piece ≡ front ++ rest
  pub at : IsAt r (bytes ++ front)
  pub added : all ≡ old ++ new_records bytes front

pub starts : (bytes piece : List ℕ) (r : LineReader) (old : List ProofRecord) → IsAt r bytes → Through bytes piece piece r old old
starts bytes piece r old at = record {
  front = [];
  split = refl;
  at = subst (IsAt r) (sym (append-nil bytes)) at;
  added = sym (append-nil old) ∙ ap (λ l. old ++ l) (sym nothing);
}
  where
    nothing : new_records bytes [] ≡ []
    nothing = new_is bytes [] [] (ap records_of (append-nil bytes) ∙ sym (append-nil (records_of bytes)))

module _ (bytes piece rest : List ℕ) (r : LineReader) (old all : List ProofRecord) (t : Through bytes piece rest r old all) where
  abbrev read_so_far : List ℕ
  read_so_far = bytes ++ t.front

  both_added : (part : List ℕ) (next : List ProofRecord) → next ≡ all ++ new_records (bytes ++ t.front) part
      → next ≡ old ++ new_records bytes (t.front ++ part)
  both_added part next e =
      e ∙ ap (λ l. l ++ new_records (bytes ++ t.front) part) t.added
      ∙ append_assoc old (new_records bytes t.front) (new_records (bytes ++ t.front) part)
      ∙ ap (λ l. old ++ l) (sym (new-append bytes t.front part))

  whole_piece : (part more : List ℕ) → rest ≡ part ++ more → piece ≡ (t.front ++ part) ++ more
  whole_piece part more e = t.split ∙ ap (λ l. t.front ++ l) e ∙ sym (append_assoc t.front part more)

  -- one part more
  pub goes_through : (part more : List ℕ) (new : LineReader) (next : List ProofRecord) → rest ≡ part ++ more
      → IsAt new ((bytes ++ t.front) ++ part) → next ≡ all ++ new_records (bytes ++ t.front) part → Through bytes piece more new old next
  goes_through part more new next e at added = record {
    front = t.front ++ part;
    split = whole_piece part more e;
    at = subst (IsAt new) (append_assoc bytes t.front part) at;
    added = both_added part next added;
  }

  all_bytes : (part more : List ℕ) → rest ≡ part ++ more → bytes ++ piece ≡ ((bytes ++ t.front) ++ part) ++ more
  all_bytes part more e =
      ap (λ l. bytes ++ l) (whole_piece part more e) ∙ sym (append_assoc bytes (t.front ++ part) more)
      ∙ ap (λ l. l ++ more) (sym (append_assoc bytes t.front part))

  both_faults : (part more : List ℕ) (next : List ProofRecord) (fault : ReaderFault) → rest ≡ part ++ more
      → fault_of ((bytes ++ t.front) ++ part) ≡ Some fault → next ≡ all ++ new_records (bytes ++ t.front) part
      → (fault_of (bytes ++ piece) ≡ Some fault) × (next ≡ old ++ new_records bytes piece)
  both_faults part more next fault e f added = (
    ap fault_of (all_bytes part more e) ∙ fault_stays ((bytes ++ t.front) ++ part) more fault f,
    both_added part next added
        ∙ ap (λ l. old ++ l) (sym (append-nil (new_records bytes (t.front ++ part)))
        ∙ ap (λ l. new_records bytes (t.front ++ part) ++ l) (sym nothing)
        ∙ sym (new-append bytes (t.front ++ part) more) ∙ ap (new_records bytes) (sym (whole_piece part more e))),
  )
    where
      nothing : new_records (bytes ++ (t.front ++ part)) more ≡ []
      nothing = none_new (bytes ++ (t.front ++ part)) more fault (ap fault_of (sym (append_assoc bytes t.front part)) ∙ f)

  -- a fault in one part is that of the whole piece
  pub faults_through : (part more : List ℕ) (new : LineReader) (next : List ProofRecord) (fault : ReaderFault) → rest ≡ part ++ more
      → ReadsOn (bytes ++ t.front) part new all next (Err fault) → ReadsOn bytes piece new old next (Err fault)
  faults_through part more new next Memory e h = record {
    more = new_records bytes t.front ++ h.more;
    rest = h.rest ++ new_records (bytes ++ (t.front ++ part)) more;
    split = ap (new_records bytes) (whole_piece part more e) ∙ new-append bytes (t.front ++ part) more
        ∙ ap (λ l. l ++ new_records (bytes ++ (t.front ++ part)) more)
        (new-append bytes t.front part ∙ ap (λ l. new_records bytes t.front ++ l) h.split ∙ sym (append_assoc (new_records bytes t.front) h.more h.rest))
        ∙ append_assoc (new_records bytes t.front ++ h.more) h.rest (new_records (bytes ++ (t.front ++ part)) more);
    added = h.added ∙ ap (λ l. l ++ h.more) t.added ∙ append_assoc old (new_records bytes t.front) h.more;
  }
  faults_through part more new next (ShapeAt number) e h = both_faults part more next (ShapeAt number) e h.0 h.1
  faults_through part more new next (NumberAt number) e h = both_faults part more next (NumberAt number) e h.0 h.1
  faults_through part more new next (Cut number) e h = absurd h

  -- the whole rest is the last part
  pub ends_through : (new : LineReader) (result : Result (Unit {0}) ReaderFault) → ReadsOn (bytes ++ t.front) rest new all all result
      → ReadsOn bytes piece new old all result
  ends_through new (Ok done) h = (
    subst (IsAt new) (append_assoc bytes t.front rest ∙ ap (λ l. bytes ++ l) (sym t.split)) h.0,
    both_added rest all h.1 ∙ ap (λ l. old ++ new_records bytes l) (sym t.split),
  )
  ends_through new (Err fault) h = faults_through rest [] new all fault (sym (append-nil rest)) h

  -- the next part is a line
  module _ (part behind : List ℕ) (s : IsSplitAtLine rest part behind) where
    line_and_rest : rest ≡ (part ++ 10 ∷ []) ++ behind
    line_and_rest = s.split ∙ sym (append_assoc part (10 ∷ []) behind)

    pub line_fits : length bytes + length piece ≤ 2 ^ 63 → length (bytes ++ t.front) + length part < 2 ^ 63
    line_fits h =
        omega (arith, h, length-append bytes t.front, ap length t.split, length-append t.front rest, ap length s.split, length-append part (10 ∷ behind))

    pub line_through : (new : LineReader) (next : List ProofRecord) → IsAt new ((bytes ++ t.front) ++ (part ++ 10 ∷ []))
        × (next ≡ all ++ new_records (bytes ++ t.front) (part ++ 10 ∷ [])) → Through bytes piece behind new old next
    line_through new next h = goes_through (part ++ 10 ∷ []) behind new next line_and_rest h.0 h.1

    pub line_refused : (new : LineReader) (next : List ProofRecord) (fault : ReaderFault) (result : Result (Unit {0}) ReaderFault)
        → IsErrAnd result (λ f. f ≡ fault) → ReadsOn (bytes ++ t.front) (part ++ 10 ∷ []) new all next (Err fault)
        → ReadsOn bytes piece new old next result
    line_refused new next fault (Ok done) e h = absurd e
    line_refused new next fault (Err other) e h =
        subst (λ (f : ReaderFault). ReadsOn bytes piece new old next (Err f)) (sym e)
        (faults_through (part ++ 10 ∷ []) behind new next fault line_and_rest h)
