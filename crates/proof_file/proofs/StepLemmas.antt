-- What a reader of lines comes to by one line, or by a part of one.
use Rattle.std.proofs.Common.{◌≡◌, ℕ, ◌+◌, ◌-◌, ◌<◌, ◌≤◌, ◌^◌, min, cond, nat_lt, true, false, List, [], ◌∷◌, ◌++◌, length, None, Some, Result, Ok, Err, refl, sym, ◌∙◌, ap, arith, length-append}
use Rattle.std.proofs.lemmas.List.{append-nil}
use borrow.Author.Tests.{le-ltb, lt-ltb}
use Rattle.proof_file.specs.declared.record.ProofRecord.{ProofRecord}
use Rattle.proof_file.specs.declared.fault.LineFault.{LineFault}
use Rattle.proof_file.specs.declared.fault.LineFault.TheVariants.{Shape, Number}
use Rattle.proof_file.specs.declared.fault.ReaderFault.TheVariants.{Shape as ShapeAt}
use Rattle.proof_file.specs.declared.lines.LineReader.{LineReader}
use Rattle.proof_file.specs.Reading.{line_read, lines_in, open_line, version_of, version_after, fault_at, fault_of}
use Rattle.proof_file.specs.Reader.{IsAt, new_records, ReadsOn}
use Rattle.proof_file.proofs.CutLemmas.{IsPlain}
use Rattle.proof_file.proofs.ReaderLemmas.{new_is, lines_few, ended_fault, ended_records, ended_version, ended_count, ended_nothing, kept_lines, kept_open, kept_records, kept_fault}

-- a new reader
pub begins : (r : LineReader) → r.version ≡ 1 → r.number ≡ 1 → r.kept ≡ [] → IsAt r []
unfolding fault_of
begins r v n k = record { none = refl; version = v; number = n; kept = k }

-- nothing is added where there are no new records
added_none : (old all more : List ProofRecord) → all ≡ old → more ≡ [] → all ≡ old ++ more
added_none old all more e f = e ∙ sym (append-nil old) ∙ ap (λ l. old ++ l) (sym f)

module _ (r : LineReader) (bytes part : List ℕ) (at : IsAt r bytes) (plain : IsPlain part) where
  same_length : length (r.kept ++ part) ≡ length (open_line bytes ++ part)
  same_length = ap (λ k. length (k ++ part)) at.kept

  -- the part goes on with a line that isn't too long
  pub goes_on : (kept : List ℕ) (records : List ProofRecord) → kept ≡ r.kept ++ part → length r.kept + length part ≤ 80
      → IsAt (record { version = r.version; number = r.number; kept = kept }) (bytes ++ part) × (records ≡ records ++ new_records bytes part)
  goes_on kept records e h = (
    record {
      none = kept_fault bytes at.none part plain ∙ ap (λ b. cond b (Some (ShapeAt (length (lines_in bytes) + 1))) None) short;
      version = at.version ∙ ap version_of (sym (kept_lines bytes at.none part plain));
      number = at.number ∙ ap (λ ls. length ls + 1) (sym (kept_lines bytes at.none part plain));
      kept = e ∙ ap (λ k. k ++ part) at.kept ∙ sym (kept_open bytes at.none part plain);
    },
    added_none records records (new_records bytes part) refl (new_is bytes part [] (kept_records bytes at.none part plain)),
  )
    where
      short : nat_lt 80 (length (open_line bytes ++ part)) ≡ false
      short = le-ltb 80 (length (open_line bytes ++ part)) (omega (arith, h, length-append r.kept part, same_length))

  -- or that is too long
  pub grows_long : (records : List ProofRecord) → 80 < length (r.kept ++ part)
      → (fault_of (bytes ++ part) ≡ Some (ShapeAt r.number)) × (records ≡ records ++ new_records bytes part)
  grows_long records h = (
    kept_fault bytes at.none part plain ∙ ap (λ b. cond b (Some (ShapeAt (length (lines_in bytes) + 1))) None) long
        ∙ ap (λ n. Some (ShapeAt n)) (sym at.number),
    added_none records records (new_records bytes part) refl (new_is bytes part [] (kept_records bytes at.none part plain)),
  )
    where
      long : nat_lt 80 (length (open_line bytes ++ part)) ≡ true
      long = lt-ltb 80 (length (open_line bytes ++ part)) (omega (arith, h, same_length))

  here : (answer : Result ProofRecord LineFault) → line_read r.version (r.kept ++ part) ≡ answer → line_read (version_of (lines_in bytes)) (open_line bytes ++ part) ≡ answer
  here answer e =
      ap (λ v. line_read v (open_line bytes ++ part)) (sym at.version) ∙ ap (λ k. line_read r.version (k ++ part)) (sym at.kept) ∙ e

  -- the part ends a line that is a record
  pub ends_line : (new : LineReader) (item : ProofRecord) (old all : List ProofRecord) → length bytes + length part < 2 ^ 63
      → line_read r.version (r.kept ++ part) ≡ Ok item → new.version ≡ version_after r.number r.version item
      → new.number ≡ min (r.number + 1) (2 ^ 64 - 1) → new.kept ≡ [] → all ≡ old ++ item ∷ []
      → IsAt new (bytes ++ (part ++ 10 ∷ [])) × (all ≡ old ++ new_records bytes (part ++ 10 ∷ []))
  ends_line new item old all h e v n k a =
      let read = here (Ok item) e in (
        record {
          none = ended_fault bytes at.none part plain (Ok item) read;
          version = v ∙ ap (λ m. version_after m r.version item) at.number
              ∙ ap (λ w. version_after (length (lines_in bytes) + 1) w item) at.version ∙ sym (ended_version bytes at.none part plain item read);
          number = omega (arith, n, at.number, h, lines_few bytes, ended_count bytes at.none part plain);
          kept = k ∙ sym (ended_nothing bytes at.none part plain);
        },
        a ∙ ap (λ l. old ++ l) (sym (new_is bytes (part ++ 10 ∷ []) (item ∷ []) (ended_records bytes at.none part plain (Ok item) read))),
      )

  -- or one that is none
  pub refuses_line : (new : LineReader) (fault : LineFault) (old all : List ProofRecord) → line_read r.version (r.kept ++ part) ≡ Err fault → all ≡ old
      → ReadsOn bytes (part ++ 10 ∷ []) new old all (Err (fault_at r.number fault))
  refuses_line new fault old all e a =
      let read = here (Err fault) e in
      by_fault fault
      (ended_fault bytes at.none part plain (Err fault) read ∙ ap (λ n. Some (fault_at n fault)) (sym at.number))
      (added_none old all (new_records bytes (part ++ 10 ∷ [])) a (new_is bytes (part ++ 10 ∷ []) [] (ended_records bytes at.none part plain (Err fault) read)))
    where
      by_fault : (f : LineFault) → fault_of (bytes ++ (part ++ 10 ∷ [])) ≡ Some (fault_at r.number f)
          → all ≡ old ++ new_records bytes (part ++ 10 ∷ []) → ReadsOn bytes (part ++ 10 ∷ []) new old all (Err (fault_at r.number f))
      by_fault Shape g b = (g, b)
      by_fault Number g b = (g, b)
