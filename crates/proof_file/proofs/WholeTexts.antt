-- Bytes are read whole as records exactly where they are the text of these.
use Rattle.std.proofs.Common.{◌≡◌, ℕ, ◌+◌, Bool, true, false, cond, ◌||◌, ◌&&◌, List, [], ◌∷◌, ◌++◌, length, map, None, Result, Ok, Err, refl, sym, ◌∙◌, ap, subst, arith, IsTrue}
use Rattle.std.specs.Prelude.{flat_map}
use Rattle.std.specs.Option.{option_or}
use Rattle.std.specs.List.{list_all, list_any}
use Rattle.std.proofs.lemmas.List.{append-nil}
use borrow.Author.Tests.{eqb-true}
use Rattle.proof_file.proofs.TruthLemmas.{and_parts}
use Rattle.proof_file.specs.declared.record.ProofRecord.{ProofRecord}
use Rattle.proof_file.specs.declared.record.ProofRecord.TheVariants.{Head, Table, Ta, Tb, Split, Leaf, U, V, A, B, Use, Close, End, Nothing}
use Rattle.proof_file.specs.declared.fault.LineFault.{LineFault}
use Rattle.proof_file.specs.Kind.{line_of, is_in_range, is_of_version}
use Rattle.proof_file.specs.Text.{AreInRange, text_of}
use Rattle.proof_file.specs.Reading.{is_newline, with_byte, line_read, lines_in, open_line, version_by, version_of, with_record, records_in, with_fault, fault_in, length_fault, records_of, fault_of}
use Rattle.proof_file.specs.Whole.{version_told, IsTextOf, IsReadAs, IsLineOf}
use Rattle.proof_file.proofs.CutLemmas.{lines_ended, open_ended, lines_plain, some_line}
use Rattle.proof_file.proofs.ReaderLemmas.{clean_lines, read_same}
use Rattle.proof_file.proofs.LineTexts.{body, line_and, body_plain}
use Rattle.proof_file.proofs.ReadTexts.{body_read, line_is_record}

-- the text of records, line by line

lines_of_text : (records : List ProofRecord) → lines_in (text_of records) ≡ map body records
lines_of_text [] = refl
lines_of_text (r ∷ records) =
    ap lines_in (line_and r (text_of records)) ∙ lines_ended (body r) (text_of records) (body_plain r) ∙ ap (λ ls. body r ∷ ls) (lines_of_text records)

nothing_open : (records : List ProofRecord) → open_line (text_of records) ≡ []
nothing_open [] = refl
nothing_open (r ∷ records) = ap open_line (line_and r (text_of records)) ∙ open_ended (body r) (text_of records) ∙ nothing_open records

all_read : (version : ℕ) (records : List ProofRecord) → AreInRange records → IsTrue (list_all (is_of_version version) records)
    → records_in version (map body records) ≡ records
all_read version [] h v = refl
all_read version (r ∷ records) h v =
    let range = and_parts (is_in_range r) (list_all is_in_range records) h in
    let versions = and_parts (is_of_version version r) (list_all (is_of_version version) records) v in
    ap (λ s. with_record s (records_in version (map body records))) (body_read version r range.0 versions.0)
    ∙ ap (λ l. r ∷ l) (all_read version records range.1 versions.1)

none_refused : (version number : ℕ) (records : List ProofRecord) → AreInRange records → IsTrue (list_all (is_of_version version) records)
    → fault_in version number (map body records) ≡ None
none_refused version number [] h v = refl
none_refused version number (r ∷ records) h v =
    let range = and_parts (is_in_range r) (list_all is_in_range records) h in
    let versions = and_parts (is_of_version version r) (list_all (is_of_version version) records) v in
    ap (λ s. with_fault number s (fault_in version (number + 1) (map body records))) (body_read version r range.0 versions.0)
    ∙ none_refused version (number + 1) records range.1 versions.1

first_of_version : (r : ProofRecord) → IsTrue (is_of_version (version_by (Ok r)) r) → IsTrue (is_of_version 1 r)
first_of_version (Head x) h = refl
first_of_version (Table x) h = h
first_of_version (Ta x) h = h
first_of_version (Tb x) h = h
first_of_version (Split x) h = h
first_of_version (Leaf q) h = h
first_of_version (U x) h = h
first_of_version (V x) h = h
first_of_version (A x) h = h
first_of_version (B x) h = h
first_of_version (Use x) h = h
first_of_version Close h = h
first_of_version (End bound) h = h
first_of_version Nothing h = h

version_is : (records : List ProofRecord) → AreInRange records → IsTrue (list_all (is_of_version (version_told records)) records)
    → version_of (map body records) ≡ version_told records
version_is [] h v = refl
version_is (r ∷ records) h v =
    let range = and_parts (is_in_range r) (list_all is_in_range records) h in
    let versions = and_parts (is_of_version (version_by (Ok r)) r) (list_all (is_of_version (version_by (Ok r))) records) v in
    ap version_by (body_read 1 r range.0 (first_of_version r versions.0))

pub text_is_read : (bytes : List ℕ) (records : List ProofRecord) → IsTextOf bytes records → IsReadAs bytes records
unfolding records_of fault_of
text_is_read bytes records t =
    let lines : lines_in bytes ≡ map body records = ap lines_in t.text ∙ lines_of_text records in
    let version : version_of (lines_in bytes) ≡ version_told records = ap version_of lines ∙ version_is records t.ranges t.versions in
    let rest : open_line bytes ≡ [] = ap open_line t.text ∙ nothing_open records in
    record {
      none = ap (λ v. option_or (fault_in v 1 (lines_in bytes)) (length_fault (length (lines_in bytes) + 1) (open_line bytes))) version
          ∙ ap (λ ls. option_or (fault_in (version_told records) 1 ls) (length_fault (length ls + 1) (open_line bytes))) lines
          ∙ ap (λ o. option_or o (length_fault (length (map body records) + 1) (open_line bytes))) (none_refused (version_told records) 1 records t.ranges t.versions)
          ∙ ap (length_fault (length (map body records) + 1)) rest;
      ended = rest;
      read = ap (λ v. records_in v (lines_in bytes)) version ∙ ap (records_in (version_told records)) lines ∙ all_read (version_told records) records t.ranges t.versions;
    }

-- what is read is the text

abbrev ended : List ℕ → List ℕ
ended text = text ++ 10 ∷ []

bytes_are_lines : (bytes : List ℕ) → bytes ≡ flat_map ended (lines_in bytes) ++ open_line bytes
bytes_are_lines [] = refl
bytes_are_lines (byte ∷ bytes) = by_test (is_newline byte) refl (bytes_are_lines bytes)
  where
    any_of : (b : Bool) → list_any is_newline bytes ≡ b → (text : List ℕ) (lines : List (List ℕ)) → lines_in bytes ≡ text ∷ lines → list_any is_newline bytes ≡ true
    any_of true e text lines f = e
    any_of false e text lines f = let none = lines_plain bytes e in absurd (cc (none, f))

    none_of : (b : Bool) → list_any is_newline bytes ≡ b → lines_in bytes ≡ [] → list_any is_newline bytes ≡ false
    none_of false e f = e
    none_of true e f = absurd (omega (arith, some_line bytes e, ap length f))

    by_lines : (ls : List (List ℕ)) → lines_in bytes ≡ ls → bytes ≡ flat_map ended ls ++ open_line bytes
        → byte ∷ bytes ≡ flat_map ended (with_byte byte ls) ++ cond (list_any is_newline bytes) (open_line bytes) (byte ∷ bytes)
    by_lines [] f rest = sym (ap (λ b. cond b (open_line bytes) (byte ∷ bytes)) (none_of (list_any is_newline bytes) refl f))
    by_lines (text ∷ lines) f rest =
        ap (λ l. byte ∷ l) rest
        ∙ ap (λ b. flat_map ended ((byte ∷ text) ∷ lines) ++ cond b (open_line bytes) (byte ∷ bytes)) (sym (any_of (list_any is_newline bytes) refl text lines f))

    by_test : (b : Bool) → is_newline byte ≡ b → bytes ≡ flat_map ended (lines_in bytes) ++ open_line bytes
        → byte ∷ bytes ≡ flat_map ended (cond b ([] ∷ lines_in bytes) (with_byte byte (lines_in bytes)))
        ++ cond (b || list_any is_newline bytes) (open_line bytes) (byte ∷ bytes)
    by_test true e rest = ap (λ b. b ∷ bytes) (eqb-true byte 10 e) ∙ ap (λ l. 10 ∷ l) rest
    by_test false e rest = by_lines (lines_in bytes) refl rest

record AreLines (version : ℕ) (lines : List (List ℕ)) : Type 0 where
  text : flat_map ended lines ≡ text_of (records_in version lines)
  ranges : AreInRange (records_in version lines)
  versions : IsTrue (list_all (is_of_version version) (records_in version lines))

lines_are : (version number : ℕ) (lines : List (List ℕ)) → fault_in version number lines ≡ None → AreLines version lines
lines_are version number [] e = record { text = refl; ranges = refl; versions = refl }
lines_are version number (text ∷ lines) e = by_read (line_read version text) refl e (λ f. lines_are version (number + 1) lines f)
  where
    more : (r : ProofRecord) → line_read version text ≡ Ok r → IsLineOf version text r → AreLines version lines → AreLines version (text ∷ lines)
    more r f own rest =
        let read : records_in version (text ∷ lines) ≡ r ∷ records_in version lines = ap (λ s. with_record s (records_in version lines)) f in
        record {
          text = ap (λ l. l ++ flat_map ended lines) own.whole ∙ ap (λ l. line_of r ++ l) rest.text ∙ ap text_of (sym read);
          ranges = ap (list_all is_in_range) read ∙ ap (λ b. b && list_all is_in_range (records_in version lines)) own.in_range ∙ rest.ranges;
          versions = ap (list_all (is_of_version version)) read ∙ ap (λ b. b && list_all (is_of_version version) (records_in version lines)) own.of_version
              ∙ rest.versions;
        }

    by_read : (s : Result ProofRecord LineFault) → line_read version text ≡ s → with_fault number s (fault_in version (number + 1) lines) ≡ None
        → (fault_in version (number + 1) lines ≡ None → AreLines version lines) → AreLines version (text ∷ lines)
    by_read (Ok r) f g rest = more r f (line_is_record version text r f) (rest g)
    by_read (Err fault) f g rest = absurd (cc g)

-- the version is that of the first record
told_is : (lines : List (List ℕ)) → fault_in (version_of lines) 1 lines ≡ None → version_told (records_in (version_of lines) lines) ≡ version_of lines
told_is [] e = refl
told_is (text ∷ lines) e = by_read (line_read (version_of (text ∷ lines)) text) refl e
  where
    by_read : (s : Result ProofRecord LineFault) → line_read (version_of (text ∷ lines)) text ≡ s
        → with_fault 1 s (fault_in (version_of (text ∷ lines)) (1 + 1) lines) ≡ None
        → version_told (records_in (version_of (text ∷ lines)) (text ∷ lines)) ≡ version_of (text ∷ lines)
    by_read (Ok r) f g =
        ap (λ t. version_told (with_record t (records_in (version_of (text ∷ lines)) lines))) f ∙ ap version_by (sym f ∙ read_same [] text)
    by_read (Err fault) f g = absurd (cc g)

pub read_is_text : (bytes : List ℕ) (records : List ProofRecord) → IsReadAs bytes records → IsTextOf bytes records
unfolding records_of
read_is_text bytes records h =
    let clean = clean_lines bytes h.none in
    let all = lines_are (version_of (lines_in bytes)) 1 (lines_in bytes) clean in
    let told = told_is (lines_in bytes) clean in
    subst (IsTextOf bytes) h.read (record {
      text = bytes_are_lines bytes ∙ ap (λ l. flat_map ended (lines_in bytes) ++ l) h.ended ∙ append-nil (flat_map ended (lines_in bytes)) ∙ all.text;
      ranges = all.ranges;
      versions = ap (λ v. list_all (is_of_version v) (records_in (version_of (lines_in bytes)) (lines_in bytes))) told ∙ all.versions;
    })
