-- What one line more, or one piece more, does to the records and the fault of bytes.
use Rattle.std.proofs.Common.{◌≡◌, ℕ, suc, ◌+◌, ◌<◌, ◌≤◌, Bool, true, false, cond, nat_eq, List, [], ◌∷◌, ◌++◌, length, drop, None, Some, Option, Result, Ok, Err, refl, sym, ◌∙◌, ap, arith, append_assoc, length-append, ◌⊎◌, inl, inr, IsTrue}
use Rattle.std.specs.Prelude.{◌↔◌}
use Rattle.std.specs.Option.{option_or}
use Rattle.std.proofs.lemmas.Bool.{cases_lt}
use Rattle.std.proofs.lemmas.Bool.Decides.{nat_tests}
use Rattle.std.proofs.lemmas.List.{append-nil, drop_at}
use Rattle.proof_file.specs.declared.record.ProofRecord.{ProofRecord}
use Rattle.proof_file.specs.declared.record.ProofRecord.TheVariants.{Head, Table, Ta, Tb, Split, Leaf, U, V, A, B, Use, Close, End, Nothing}
use Rattle.proof_file.specs.declared.fault.LineFault.{LineFault}
use Rattle.proof_file.specs.declared.fault.ReaderFault.{ReaderFault}
use Rattle.proof_file.specs.Reading.{is_newline, with_byte, line_read, lines_in, open_line, version_by, version_of, version_after, with_record, records_in, with_fault, fault_in, length_fault, records_of, fault_of}
use Rattle.proof_file.specs.Reader.{new_records}
use Rattle.proof_file.proofs.CutLemmas.{IsPlain, plain_append, open_plain, lines_plain, open_is_plain, lines_ended, open_ended, lines-append, open-append}
use Rattle.proof_file.proofs.LineLemmas.{read_again}

-- lists of lines

pub records-append : (version number : ℕ) (lines more : List (List ℕ)) → fault_in version number lines ≡ None
    → records_in version (lines ++ more) ≡ records_in version lines ++ records_in version more
records-append version number [] more e = refl
records-append version number (text ∷ lines) more e = by_read (line_read version text) e (λ f. records-append version (number + 1) lines more f)
  where
    by_read : (r : Result ProofRecord LineFault) → with_fault number r (fault_in version (number + 1) lines) ≡ None
        → (fault_in version (number + 1) lines ≡ None → records_in version (lines ++ more) ≡ records_in version lines ++ records_in version more)
        → with_record r (records_in version (lines ++ more)) ≡ with_record r (records_in version lines) ++ records_in version more
    by_read (Ok r) f rest = ap (λ l. r ∷ l) (rest f)
    by_read (Err fault) f rest = absurd (cc f)

pub records_stay : (version number : ℕ) (lines more : List (List ℕ)) (fault : ReaderFault) → fault_in version number lines ≡ Some fault
    → records_in version (lines ++ more) ≡ records_in version lines
records_stay version number [] more fault e = absurd (cc e)
records_stay version number (text ∷ lines) more fault e = by_read (line_read version text) e (λ f. records_stay version (number + 1) lines more fault f)
  where
    by_read : (r : Result ProofRecord LineFault) → with_fault number r (fault_in version (number + 1) lines) ≡ Some fault
        → (fault_in version (number + 1) lines ≡ Some fault → records_in version (lines ++ more) ≡ records_in version lines)
        → with_record r (records_in version (lines ++ more)) ≡ with_record r (records_in version lines)
    by_read (Ok r) f rest = ap (λ l. r ∷ l) (rest f)
    by_read (Err other) f rest = refl

pub fault-append : (version number : ℕ) (lines more : List (List ℕ))
    → fault_in version number (lines ++ more) ≡ option_or (fault_in version number lines) (fault_in version (number + length lines) more)
fault-append version number [] more = ap (λ n. fault_in version n more) (same number)
  where
    same : (n : ℕ) → n ≡ n + 0
    same n = omega arith
fault-append version number (text ∷ lines) more = by_read (line_read version text) (fault-append version (number + 1) lines more)
  where
    same : (n m : ℕ) → n + 1 + m ≡ n + suc m
    same n m = omega arith

    by_read : (r : Result ProofRecord LineFault)
        → fault_in version (number + 1) (lines ++ more) ≡ option_or (fault_in version (number + 1) lines) (fault_in version (number + 1 + length lines) more)
        → with_fault number r (fault_in version (number + 1) (lines ++ more))
        ≡ option_or (with_fault number r (fault_in version (number + 1) lines)) (fault_in version (number + suc (length lines)) more)
    by_read (Ok r) e = e ∙ ap (λ n. option_or (fault_in version (number + 1) lines) (fault_in version n more)) (same number (length lines))
    by_read (Err fault) e = refl

-- Further lines don't change how the first ones are read.
pub fault_kept : (lines more : List (List ℕ)) → fault_in (version_of (lines ++ more)) 1 lines ≡ fault_in (version_of lines) 1 lines
fault_kept [] more = refl
fault_kept (text ∷ lines) more = refl

pub records_kept : (lines more : List (List ℕ)) → records_in (version_of (lines ++ more)) lines ≡ records_in (version_of lines) lines
records_kept [] more = refl
records_kept (text ∷ lines) more = refl

-- the parts of bytes without a fault
pub clean_lines : (bytes : List ℕ) → fault_of bytes ≡ None → fault_in (version_of (lines_in bytes)) 1 (lines_in bytes) ≡ None
unfolding fault_of
clean_lines bytes e = none_first (fault_in (version_of (lines_in bytes)) 1 (lines_in bytes)) (length_fault (length (lines_in bytes) + 1) (open_line bytes)) e
  where
    none_first : (o p : Option ReaderFault) → option_or o p ≡ None → o ≡ None
    none_first None p f = refl
    none_first (Some x) p f = absurd (cc f)

one : (n : ℕ) → 1 + n ≡ n + 1
one n = omega arith

-- Bytes that have these lines and this open line behind lines without a fault.
module _ (bytes : List ℕ) (clean : fault_of bytes ≡ None) where
  whole : List (List ℕ)
  whole = lines_in bytes

  -- what further lines come to
  pub fault_more : (all : List ℕ) (more : List (List ℕ)) (tail : List ℕ) → lines_in all ≡ lines_in bytes ++ more → open_line all ≡ tail
      → fault_of all ≡ option_or (fault_in (version_of (lines_in bytes ++ more)) (length (lines_in bytes) + 1) more)
      (length_fault (length (lines_in bytes ++ more) + 1) tail)
  unfolding fault_of
  fault_more all more tail e f =
      let version = version_of (lines_in bytes ++ more) in
      ap (λ ls. option_or (fault_in (version_of ls) 1 ls) (length_fault (length ls + 1) (open_line all))) e
      ∙ ap (λ l. option_or (fault_in version 1 (lines_in bytes ++ more)) (length_fault (length (lines_in bytes ++ more) + 1) l)) f
      ∙ ap (λ o. option_or o (length_fault (length (lines_in bytes ++ more) + 1) tail))
      (fault-append version 1 (lines_in bytes) more
      ∙ ap (λ o. option_or o (fault_in version (1 + length (lines_in bytes)) more)) (fault_kept (lines_in bytes) more ∙ clean_lines bytes clean)
      ∙ ap (λ n. fault_in version n more) (one (length (lines_in bytes))))

  pub records_more : (all : List ℕ) (more : List (List ℕ)) → lines_in all ≡ lines_in bytes ++ more
      → records_of all ≡ records_of bytes ++ records_in (version_of (lines_in bytes ++ more)) more
  unfolding records_of
  records_more all more e =
      let version = version_of (lines_in bytes ++ more) in
      ap (λ ls. records_in (version_of ls) ls) e
      ∙ records-append version 1 (lines_in bytes) more (fault_kept (lines_in bytes) more ∙ clean_lines bytes clean)
      ∙ ap (λ l. l ++ records_in version more) (records_kept (lines_in bytes) more)

-- one line more
pub read_same : (lines : List (List ℕ)) (text : List ℕ) → line_read (version_of (lines ++ text ∷ [])) text ≡ line_read (version_of lines) text
read_same [] text = by_read (line_read 1 text) refl
  where
    by_read : (r : Result ProofRecord LineFault) → line_read 1 text ≡ r → line_read (version_by r) text ≡ r
    by_read (Ok r) e = read_again (version_by (Ok r)) text r e
    by_read (Err fault) e = e
read_same (first ∷ lines) text = refl

first_version : (r : ProofRecord) → version_by (Ok r) ≡ version_after 1 1 r
first_version (Head x) = refl
first_version (Table x) = refl
first_version (Ta x) = refl
first_version (Tb x) = refl
first_version (Split x) = refl
first_version (Leaf q) = refl
first_version (U x) = refl
first_version (V x) = refl
first_version (A x) = refl
first_version (B x) = refl
first_version (Use x) = refl
first_version Close = refl
first_version (End bound) = refl
first_version Nothing = refl

later_version : (number version : ℕ) (r : ProofRecord) → 1 < number → version_after number version r ≡ version
later_version number version (Head x) h = ap (λ b. cond b x.version version) (not_one number h)
  where
    not_one : (n : ℕ) → 1 < n → nat_eq n 1 ≡ false
    not_one n l = grind (arith, nat_tests)
later_version number version (Table x) h = refl
later_version number version (Ta x) h = refl
later_version number version (Tb x) h = refl
later_version number version (Split x) h = refl
later_version number version (Leaf q) h = refl
later_version number version (U x) h = refl
later_version number version (V x) h = refl
later_version number version (A x) h = refl
later_version number version (B x) h = refl
later_version number version (Use x) h = refl
later_version number version Close h = refl
later_version number version (End bound) h = refl
later_version number version Nothing h = refl

version_next : (lines : List (List ℕ)) (text : List ℕ) (r : ProofRecord) → line_read (version_of lines) text ≡ Ok r
    → version_of (lines ++ text ∷ []) ≡ version_after (length lines + 1) (version_of lines) r
version_next [] text r e = ap version_by e ∙ first_version r
version_next (first ∷ lines) text r e = sym (later_version (length (first ∷ lines) + 1) (version_of (first ∷ lines)) r (omega arith))

-- where the new bytes have these records more
pub new_is : (bytes piece : List ℕ) (more : List ProofRecord) → records_of (bytes ++ piece) ≡ records_of bytes ++ more → new_records bytes piece ≡ more
new_is bytes piece more e =
    ap (drop (length (records_of bytes))) e ∙ drop_at (records_of bytes) more (length (records_of bytes)) refl

module _ (bytes : List ℕ) (clean : fault_of bytes ≡ None) (part : List ℕ) (plain : IsPlain part) where
  abbrev line_text : List ℕ
  line_text = open_line bytes ++ part

  text_plain : IsPlain (open_line bytes ++ part)
  text_plain = plain_append (open_line bytes) part (open_is_plain bytes) plain

  -- the part ends a line
  ended_lines : lines_in (bytes ++ (part ++ 10 ∷ [])) ≡ lines_in bytes ++ (open_line bytes ++ part) ∷ []
  ended_lines =
      lines-append bytes (part ++ 10 ∷ [])
      ∙ ap (λ l. lines_in bytes ++ lines_in l) (sym (append_assoc (open_line bytes) part (10 ∷ [])))
      ∙ ap (λ l. lines_in bytes ++ l) (lines_ended (open_line bytes ++ part) [] text_plain)

  ended_open : open_line (bytes ++ (part ++ 10 ∷ [])) ≡ []
  ended_open =
      open-append bytes (part ++ 10 ∷ []) ∙ ap open_line (sym (append_assoc (open_line bytes) part (10 ∷ [])))
      ∙ open_ended (open_line bytes ++ part) []

  read_then : (r : Result ProofRecord LineFault) → line_read (version_of (lines_in bytes)) (open_line bytes ++ part) ≡ r
      → line_read (version_of (lines_in bytes ++ (open_line bytes ++ part) ∷ [])) (open_line bytes ++ part) ≡ r
  read_then r e = read_same (lines_in bytes) (open_line bytes ++ part) ∙ e

  pub ended_fault : (r : Result ProofRecord LineFault) → line_read (version_of (lines_in bytes)) (open_line bytes ++ part) ≡ r
      → fault_of (bytes ++ (part ++ 10 ∷ [])) ≡ option_or (with_fault (length (lines_in bytes) + 1) r None) None
  ended_fault r e =
      fault_more bytes clean (bytes ++ (part ++ 10 ∷ [])) ((open_line bytes ++ part) ∷ []) [] ended_lines ended_open
      ∙ ap (λ s. option_or (with_fault (length (lines_in bytes) + 1) s None) None) (read_then r e)

  pub ended_records : (r : Result ProofRecord LineFault) → line_read (version_of (lines_in bytes)) (open_line bytes ++ part) ≡ r
      → records_of (bytes ++ (part ++ 10 ∷ [])) ≡ records_of bytes ++ with_record r []
  ended_records r e =
      records_more bytes clean (bytes ++ (part ++ 10 ∷ [])) ((open_line bytes ++ part) ∷ []) ended_lines
      ∙ ap (λ s. records_of bytes ++ with_record s []) (read_then r e)

  pub ended_version : (r : ProofRecord) → line_read (version_of (lines_in bytes)) (open_line bytes ++ part) ≡ Ok r
      → version_of (lines_in (bytes ++ (part ++ 10 ∷ []))) ≡ version_after (length (lines_in bytes) + 1) (version_of (lines_in bytes)) r
  ended_version r e = ap version_of ended_lines ∙ version_next (lines_in bytes) (open_line bytes ++ part) r e

  pub ended_count : length (lines_in (bytes ++ (part ++ 10 ∷ []))) ≡ length (lines_in bytes) + 1
  ended_count = ap length ended_lines ∙ length-append (lines_in bytes) ((open_line bytes ++ part) ∷ [])

  pub ended_nothing : open_line (bytes ++ (part ++ 10 ∷ [])) ≡ []
  ended_nothing = ended_open

  -- the part goes on with a line
  pub kept_lines : lines_in (bytes ++ part) ≡ lines_in bytes
  kept_lines =
      lines-append bytes part ∙ ap (λ l. lines_in bytes ++ l) (lines_plain (open_line bytes ++ part) text_plain) ∙ append-nil (lines_in bytes)

  pub kept_open : open_line (bytes ++ part) ≡ open_line bytes ++ part
  kept_open = open-append bytes part ∙ open_plain (open_line bytes ++ part) text_plain

  pub kept_records : records_of (bytes ++ part) ≡ records_of bytes ++ []
  kept_records =
      records_more bytes clean (bytes ++ part) [] (kept_lines ∙ sym (append-nil (lines_in bytes)))

  pub kept_fault : fault_of (bytes ++ part) ≡ length_fault (length (lines_in bytes) + 1) (open_line bytes ++ part)
  kept_fault =
      fault_more bytes clean (bytes ++ part) [] (open_line bytes ++ part) (kept_lines ∙ sym (append-nil (lines_in bytes))) kept_open
      ∙ ap (λ ls. length_fault (length ls + 1) (open_line bytes ++ part)) (append-nil (lines_in bytes))

-- there are no more lines than bytes
with_byte-length : (byte : ℕ) (lines : List (List ℕ)) → length (with_byte byte lines) ≡ length lines
with_byte-length byte [] = refl
with_byte-length byte (text ∷ lines) = refl

pub lines_few : (bytes : List ℕ) → length (lines_in bytes) ≤ length bytes
lines_few [] = omega arith
lines_few (byte ∷ bytes) = by_test (is_newline byte) (lines_few bytes)
  where
    by_test : (b : Bool) → length (lines_in bytes) ≤ length bytes → length (cond b ([] ∷ lines_in bytes) (with_byte byte (lines_in bytes))) ≤ length (byte ∷ bytes)
    by_test true h = omega (arith, h)
    by_test false h = omega (arith, h, with_byte-length byte (lines_in bytes))

-- what doesn't fit is too long
pub too_long : (kept part : List ℕ) (fits : Bool) → fits ≡ false → (IsTrue fits ↔ (length kept + length part ≤ 80)) → 80 < length (kept ++ part)
too_long kept part fits e h = by_case (cases_lt 80 (length (kept ++ part)))
  where
    by_case : (80 < length (kept ++ part)) ⊎ (length (kept ++ part) ≤ 80) → 80 < length (kept ++ part)
    by_case (inl l) = l
    by_case (inr l) =
        let true_too : fits ≡ true = h.1 (omega (arith, l, length-append kept part)) in
        absurd (cc (e, true_too))
