-- Further bytes leave a refusal as it is.
use Rattle.std.proofs.Common.{◌≡◌, inl, inr, ℕ, zero, suc, ◌+◌, ◌-◌, ◌<◌, ◌≤◌, Bool, true, false, cond, nat_le, List, [], ◌∷◌, ◌++◌, length, take, None, Some, Option, Result, Ok, Err, refl, sym, ◌∙◌, ap, subst, arith, length-append}
use Rattle.std.specs.Option.{option_or}
use Rattle.std.specs.Result.{result_err}
use Rattle.std.specs.List.{list_any}
use Rattle.std.proofs.lemmas.Bool.{le-leb}
use Rattle.std.proofs.lemmas.Bool.Decides.{leb_tells}
use Rattle.std.proofs.lemmas.List.{append-nil, take_all, take-append-le}
use Rattle.std.proofs.Math.Seq.{take-append-add}
use Rattle.std.proofs.lemmas.Option.{same_Some}
use Rattle.pair_prices.specs.Case.{CaseRecord}
use Rattle.proof_file.specs.declared.record.ProofRecord.{ProofRecord}
use Rattle.proof_file.specs.declared.fault.ReaderFault.{ReaderFault}
use Rattle.proof_file.specs.Reading.{is_newline, lines_in, open_line, line_read, version_of, with_record, with_fault, records_in, fault_in, records_of, fault_of}
use Rattle.proof_file.specs.Reader.{new_records}
use Rattle.proof_file.proofs.CutLemmas.{IsPlain, some_line, open_plain, lines-append, open-append}
use Rattle.proof_file.proofs.ReaderLemmas.{clean_lines}
use Rattle.proof_file.proofs.PieceLemmas.{fault_stays, none_new, records-split}
use Rattle.proof_rules.specs.Fault.{State, start}
use Rattle.proof_rules.specs.declared.refused.ProofKind.TheVariants.{Trail, Long}
use Rattle.proof_rules.specs.declared.refused.ProofRefused.{ProofRefused}
use Rattle.proof_rules.specs.Verdict.{refused, judged, one_on, going_on, walked, is_more, line_refusal, behind_refusal, unless_refused, standing, most_bytes, long_refusal, refusal_of}
use Rattle.proof_rules.specs.Fault.{after}

-- a reading of a line, kept apart from the type of its faults
by_read : {E : Type 0} (fault : Result ProofRecord E → Option ReaderFault) (records : Result ProofRecord E → List ProofRecord) (rest : Option ReaderFault) (l : List ProofRecord) (n : ℕ)
    → ((x : ProofRecord) → fault (Ok x) ≡ rest) → ((x : ProofRecord) → records (Ok x) ≡ x ∷ l) → ((e : E) → fault (Err e) ≡ None → ⊥)
    → (rest ≡ None → length l ≡ n) → (r : Result ProofRecord E) → fault r ≡ None → length (records r) ≡ suc n
by_read fault records rest l n ok more wrong later (Ok x) e = ap length (more x) ∙ ap suc (later (sym (ok x) ∙ e))
by_read fault records rest l n ok more wrong later (Err x) e = absurd (wrong x e)

-- Where no line has a fault, each line is a record.
all_read : (version number : ℕ) (lines : List (List ℕ)) → fault_in version number lines ≡ None → length (records_in version lines) ≡ length lines
all_read version number [] e = refl
all_read version number (text ∷ lines) e =
    by_read (λ r. with_fault number r (fault_in version (number + 1) lines)) (λ r. with_record r (records_in version lines)) (fault_in version (number + 1) lines) (records_in version lines)
    (length lines) (λ x. refl) (λ x. refl) (λ x f. cc f) (λ f. all_read version (number + 1) lines f) (line_read version text) e

pub as_many : (bytes : List ℕ) → fault_of bytes ≡ None → length (records_of bytes) ≡ length (lines_in bytes)
unfolding records_of
as_many bytes e = all_read (version_of (lines_in bytes)) 1 (lines_in bytes) (clean_lines bytes e)

-- records that go on
pub walked-append : (c : CaseRecord) (s : State) (number : ℕ) (xs ys : List ProofRecord)
    → walked c s number (xs ++ ys) ≡ going_on (walked c s number xs) (λ t. walked c t (number + length xs) ys)
walked-append c s number [] ys = ap (λ n. walked c s n ys) (at_first number)
  where
    at_first : (n : ℕ) → n ≡ n + 0
    at_first n = omega arith
walked-append c s number (x ∷ xs) ys = by_one (one_on c s number x) (λ t. walked-append c t (number + 1) xs ys)
  where
    count : (n : ℕ) → n + 1 + length xs ≡ n + suc (length xs)
    count n = omega arith

    by_one : (o : Result State ProofRefused)
        → ((t : State) → walked c t (number + 1) (xs ++ ys) ≡ going_on (walked c t (number + 1) xs) (λ u. walked c u (number + 1 + length xs) ys))
        → going_on o (λ t. walked c t (number + 1) (xs ++ ys))
        ≡ going_on (going_on o (λ t. walked c t (number + 1) xs)) (λ u. walked c u (number + suc (length xs)) ys)
    by_one (Err r) rest = refl
    by_one (Ok t) rest = rest t ∙ ap (λ n. going_on (walked c t (number + 1) xs) (λ u. walked c u n ys)) (count number)

-- no line ends in these bytes
no_end : (bytes : List ℕ) → lines_in bytes ≡ [] → IsPlain bytes
no_end bytes e = by_test (list_any is_newline bytes) refl
  where
    by_test : (b : Bool) → list_any is_newline bytes ≡ b → b ≡ false
    by_test true f = absurd (omega (arith, some_line bytes f, ap length e))
    by_test false f = refl

none_left : {A : Type 0} (xs ys : List A) → length (xs ++ ys) ≡ length xs → ys ≡ []
none_left xs [] e = refl
none_left xs (y ∷ ys) e = absurd (omega (arith, e, length-append xs (y ∷ ys)))

-- A line that isn't whole stays one, or is a record, or a fault.
still_open : (bytes piece : List ℕ) (byte : ℕ) (text : List ℕ) → fault_of bytes ≡ None → open_line bytes ≡ byte ∷ text
    → new_records bytes piece ≡ [] → fault_of (bytes ++ piece) ≡ None → open_line (bytes ++ piece) ≡ byte ∷ (text ++ piece)
still_open bytes piece byte text none is_open none_more none_later =
    let same : records_of (bytes ++ piece) ≡ records_of bytes = records-split bytes piece ∙ ap (λ l. records_of bytes ++ l) none_more ∙ append-nil (records_of bytes) in
    let counts : length (lines_in (bytes ++ piece)) ≡ length (lines_in bytes) = sym (as_many (bytes ++ piece) none_later) ∙ ap length same ∙ as_many bytes none in
    let left : lines_in (open_line bytes ++ piece) ≡ [] = none_left (lines_in bytes) (lines_in (open_line bytes ++ piece)) (ap length (sym (lines-append bytes piece)) ∙ counts) in
    open-append bytes piece ∙ open_plain (open_line bytes ++ piece) (no_end (open_line bytes ++ piece) left) ∙ ap (λ l. l ++ piece) is_open

more_stays : (bytes piece : List ℕ) → new_records bytes piece ≡ [] → is_more (fault_of bytes) (open_line bytes) ≡ true
    → is_more (fault_of (bytes ++ piece)) (open_line (bytes ++ piece)) ≡ true
more_stays bytes piece none_more more = by_fault (fault_of bytes) refl more
  where
    by_later : (o : Option ReaderFault) (byte : ℕ) (text : List ℕ) → fault_of (bytes ++ piece) ≡ o
        → (fault_of (bytes ++ piece) ≡ None → open_line (bytes ++ piece) ≡ byte ∷ text) → is_more o (open_line (bytes ++ piece)) ≡ true
    by_later (Some fault) byte text e h = refl
    by_later None byte text e h = ap (λ l. is_more None l) (h e)

    by_open : (line : List ℕ) → open_line bytes ≡ line → fault_of bytes ≡ None → is_more None line ≡ true
        → is_more (fault_of (bytes ++ piece)) (open_line (bytes ++ piece)) ≡ true
    by_open [] is none e = absurd (cc e)
    by_open (byte ∷ text) is none e =
        by_later (fault_of (bytes ++ piece)) byte (text ++ piece) refl (λ later. still_open bytes piece byte text none is none_more later)

    by_fault : (o : Option ReaderFault) → fault_of bytes ≡ o → is_more o (open_line bytes) ≡ true
        → is_more (fault_of (bytes ++ piece)) (open_line (bytes ++ piece)) ≡ true
    by_fault (Some fault) is e = ap (λ o. is_more o (open_line (bytes ++ piece))) (fault_stays bytes piece fault is)
    by_fault None is e = by_open (open_line bytes) refl is e

-- what the bytes so far are, walked through
module _ (c : CaseRecord) (bytes piece : List ℕ) where
  abbrev records : List ProofRecord
  records = records_of bytes

  abbrev more : List ProofRecord
  more = new_records bytes piece

  abbrev behind : State → Result State ProofRefused
  behind s = unless_refused s (behind_refusal s (length (records_of (bytes ++ piece)) + 1) (fault_of (bytes ++ piece)) (open_line (bytes ++ piece)))

  all_walked : walked c start 1 (records_of (bytes ++ piece)) ≡ going_on (walked c start 1 records) (λ t. walked c t (1 + length records) more)
  all_walked = ap (λ l. walked c start 1 l) (records-split bytes piece) ∙ walked-append c start 1 records more

  one : (n : ℕ) → 1 + n ≡ n + 1
  one n = omega arith

  -- a record behind the last
  trailing : (s : State) (r : ProofRecord) (rest : List ProofRecord) → s.is_over ≡ true → walked c s (1 + length records) (r ∷ rest) ≡ Err (refused Trail (length records + 1))
  unfolding one_on
  trailing s r rest over =
      ap (λ b. going_on (cond b (Err (refused Trail (1 + length records))) (judged (1 + length records) (after c s r))) (λ t. walked c t (1 + length records + 1) rest)) over
      ∙ ap (λ n. Err (refused Trail n)) (one (length records))

  over_stays : (s : State) (l : List ProofRecord) → more ≡ l → s.is_over ≡ true → is_more (fault_of bytes) (open_line bytes) ≡ true
      → going_on (walked c s (1 + length records) l) behind ≡ Err (refused Trail (length records + 1))
  over_stays s [] none over e =
      let same : records_of (bytes ++ piece) ≡ records = records-split bytes piece ∙ ap (λ l. records ++ l) none ∙ append-nil records in
      ap (λ b. unless_refused s (cond b (cond (is_more (fault_of (bytes ++ piece)) (open_line (bytes ++ piece))) (Some (refused Trail (length (records_of (bytes ++ piece)) + 1))) None) (line_refusal (fault_of (bytes ++ piece))))) over
      ∙ ap (λ b. unless_refused s (cond b (Some (refused Trail (length (records_of (bytes ++ piece)) + 1))) None)) (more_stays bytes piece none e)
      ∙ ap (λ l. Err (refused Trail (length l + 1))) same
  over_stays s (r ∷ rest) some over e = ap (λ o. going_on o behind) (trailing s r rest over)

  open_stays : (s : State) (r : ProofRefused) (o : Option ReaderFault) → fault_of bytes ≡ o → s.is_over ≡ false → line_refusal o ≡ Some r
      → going_on (walked c s (1 + length records) more) behind ≡ Err r
  open_stays s r None is over e = absurd (cc e)
  open_stays s r (Some fault) is over e =
      ap (λ l. going_on (walked c s (1 + length records) l) behind) (none_new bytes piece fault is)
      ∙ ap (λ b. unless_refused s (cond b (cond (is_more (fault_of (bytes ++ piece)) (open_line (bytes ++ piece))) (Some (refused Trail (length (records_of (bytes ++ piece)) + 1))) None) (line_refusal (fault_of (bytes ++ piece))))) over
      ∙ ap (λ o. unless_refused s (line_refusal o)) (fault_stays bytes piece fault is)
      ∙ ap (λ o. unless_refused s o) e

  by_over : (s : State) (r : ProofRefused) (b : Bool) → s.is_over ≡ b
      → unless_refused s (cond b (cond (is_more (fault_of bytes) (open_line bytes)) (Some (refused Trail (length records + 1))) None) (line_refusal (fault_of bytes))) ≡ Err r
      → going_on (walked c s (1 + length records) more) behind ≡ Err r
  by_over s r true over e = by_more (is_more (fault_of bytes) (open_line bytes)) refl e
    where
      by_more : (m : Bool) → is_more (fault_of bytes) (open_line bytes) ≡ m → unless_refused s (cond m (Some (refused Trail (length records + 1))) None) ≡ Err r
          → going_on (walked c s (1 + length records) more) behind ≡ Err r
      by_more true is f = over_stays s more refl over is ∙ f
      by_more false is f = absurd (cc f)
  by_over s r false over e = by_line (line_refusal (fault_of bytes)) refl e
    where
      by_line : (o : Option ProofRefused) → line_refusal (fault_of bytes) ≡ o → unless_refused s o ≡ Err r → going_on (walked c s (1 + length records) more) behind ≡ Err r
      by_line None is f = absurd (cc f)
      by_line (Some other) is f =
          let same : other ≡ r = cc f in
          open_stays s r (fault_of bytes) refl over (is ∙ ap Some same)

  by_walk : (w : Result State ProofRefused) (r : ProofRefused)
      → going_on w (λ s. unless_refused s (behind_refusal s (length records + 1) (fault_of bytes) (open_line bytes))) ≡ Err r
      → going_on (going_on w (λ t. walked c t (1 + length records) more)) behind ≡ Err r
  by_walk (Err other) r e = e
  by_walk (Ok s) r e = by_over s r s.is_over refl e

  pub standing_stays : (r : ProofRefused) → standing c bytes ≡ Err r → standing c (bytes ++ piece) ≡ Err r
  unfolding standing
  standing_stays r e = ap (λ w. going_on w behind) all_walked ∙ by_walk (walked c start 1 records) r e

-- the fault of a result
err_of : (o : Result State ProofRefused) (r : ProofRefused) → result_err o ≡ Some r → o ≡ Err r
err_of (Ok s) r e = absurd (cc e)
err_of (Err other) r e = ap Err (same_Some other r e)

-- the refusal that stands in the bytes, where they aren't too many
short_refused : (o : Option ProofRefused) (many : Bool) (number : ℕ) (r : ProofRefused) → many ≡ false
    → option_or o (cond many (Some (refused Long number)) None) ≡ Some r → o ≡ Some r
short_refused (Some other) many number r short e = e
short_refused None true number r short e = absurd (cc short)
short_refused None false number r short e = absurd (cc e)

module _ (c : CaseRecord) (bytes piece : List ℕ) (r : ProofRefused) where
  -- of bytes that are too many already only the first count
  long_stays : most_bytes ≤ length bytes → nat_le most_bytes (length bytes) ≡ true → refusal_of c bytes ≡ Some r → refusal_of c (bytes ++ piece) ≡ Some r
  unfolding refusal_of
  long_stays long told e =
      let front : take most_bytes (bytes ++ piece) ≡ take most_bytes bytes = take-append-le most_bytes bytes piece long in
      let still : nat_le most_bytes (length (bytes ++ piece)) ≡ true = le-leb most_bytes (length (bytes ++ piece)) (omega (arith, long, length-append bytes piece)) in
      ap (λ l. option_or (result_err (standing c l)) (cond (nat_le most_bytes (length (bytes ++ piece))) (Some (refused Long (length (lines_in l) + 1))) None)) front
      ∙ ap (λ b. option_or (result_err (standing c (take most_bytes bytes))) (cond b (Some (refused Long (length (lines_in (take most_bytes bytes)) + 1))) None)) (still ∙ sym told)
      ∙ e

  short_stays : length bytes < most_bytes → nat_le most_bytes (length bytes) ≡ false → refusal_of c bytes ≡ Some r → refusal_of c (bytes ++ piece) ≡ Some r
  unfolding refusal_of
  short_stays short told e =
      let whole : take most_bytes bytes ≡ bytes = take_all most_bytes bytes (omega (arith, short)) in
      let stood : standing c bytes ≡ Err r =
      err_of (standing c bytes) r (ap (λ l. result_err (standing c l)) (sym whole) ∙ short_refused (result_err (standing c (take most_bytes bytes))) _ _ r told e) in
      let room : length bytes + (most_bytes - length bytes) ≡ most_bytes = omega (arith, short) in
      let front : take most_bytes (bytes ++ piece) ≡ bytes ++ take (most_bytes - length bytes) piece =
      ap (λ n. take n (bytes ++ piece)) (sym room) ∙ take-append-add bytes piece (most_bytes - length bytes) in
      ap (λ l. option_or (result_err (standing c l)) (long_refusal (bytes ++ piece))) front
      ∙ ap (λ o. option_or (result_err o) (long_refusal (bytes ++ piece))) (standing_stays c bytes (take (most_bytes - length bytes) piece) r stood)

-- A refusal that has come is that of all bytes that go on so.
pub refusal_stays : (c : CaseRecord) (bytes piece : List ℕ) (r : ProofRefused) → refusal_of c bytes ≡ Some r → refusal_of c (bytes ++ piece) ≡ Some r
refusal_stays c bytes piece r e = elim (leb_tells most_bytes (length bytes)) [
  | inl long ↦ long_stays c bytes piece r long.1 long.0 e
  | inr short ↦ short_stays c bytes piece r short.1 short.0 e
]

none_long : (o : Option ProofRefused) (many : Bool) (number : ℕ) → option_or o (cond many (Some (refused Long number)) None) ≡ None → many ≡ false
none_long (Some other) many number e = absurd (cc e)
none_long None true number e = absurd (cc e)
none_long None false number e = refl

-- bytes that nothing refuses are fewer than 2^63
pub unrefused_few : (c : CaseRecord) (bytes : List ℕ) → refusal_of c bytes ≡ None → length bytes < most_bytes
unfolding refusal_of
unrefused_few c bytes e = elim (leb_tells most_bytes (length bytes)) [
  | inl long ↦ absurd (cc (long.0, none_long (result_err (standing c (take most_bytes bytes))) (nat_le most_bytes (length bytes)) _ e))
  | inr short ↦ short.1
]
