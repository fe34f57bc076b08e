-- The lines of bytes that come one after the other.
use Rattle.std.proofs.Common.{◌≡◌, ℕ, suc, ◌+◌, ◌<◌, ◌≤◌, Bool, true, false, cond, not, nat_lt, ◌||◌, List, [], ◌∷◌, ◌++◌, length, take, drop, take_all, get_or, None, Some, refl, sym, ◌∙◌, ap, subst, arith, length-drop, ◌-◌}
use Rattle.std.specs.List.{list_any, position_or_len, position}
use Rattle.std.proofs.lemmas.List.Folds.{list_any-append}
use Rattle.std.proofs.lemmas.List.Sums.{split_at_first, prefix_len_stops}
use borrow.Author.Tests.{eqb-true, ltb-false, ltb-true, not-false}
use Rattle.proof_file.proofs.TruthLemmas.{or_parts}
use Rattle.proof_file.specs.Reading.{is_newline, with_byte, lines_in, open_line}
use Rattle.proof_file.specs.Reader.{IsSplitAtLine}

-- bytes without a newline
abbrev pub IsPlain : List ℕ → Type 0
IsPlain bytes = list_any is_newline bytes ≡ false

or_right : (a : Bool) → (a || true) ≡ true
or_right true = refl
or_right false = refl

pub plain_append : (xs ys : List ℕ) → IsPlain xs → IsPlain ys → IsPlain (xs ++ ys)
plain_append xs ys p q = list_any-append is_newline xs ys ∙ ap (λ b. b || list_any is_newline ys) p ∙ q

pub open_plain : (bytes : List ℕ) → IsPlain bytes → open_line bytes ≡ bytes
open_plain [] p = refl
open_plain (byte ∷ bytes) p = ap (λ b. cond b (open_line bytes) (byte ∷ bytes)) p

pub lines_plain : (bytes : List ℕ) → IsPlain bytes → lines_in bytes ≡ []
lines_plain [] p = refl
lines_plain (byte ∷ bytes) p =
    let parts = or_parts (is_newline byte) (list_any is_newline bytes) p in
    ap (λ b. cond b ([] ∷ lines_in bytes) (with_byte byte (lines_in bytes))) parts.0 ∙ ap (with_byte byte) (lines_plain bytes parts.1)

pub open_is_plain : (bytes : List ℕ) → IsPlain (open_line bytes)
open_is_plain [] = refl
open_is_plain (byte ∷ bytes) = by_test (list_any is_newline (byte ∷ bytes)) refl (open_is_plain bytes)
  where
    by_test : (b : Bool) → list_any is_newline (byte ∷ bytes) ≡ b → IsPlain (open_line bytes) → IsPlain (cond b (open_line bytes) (byte ∷ bytes))
    by_test true e rest = rest
    by_test false e rest = e

-- the first line of plain bytes, a newline, and more
pub lines_ended : (xs more : List ℕ) → IsPlain xs → lines_in (xs ++ 10 ∷ more) ≡ xs ∷ lines_in more
lines_ended [] more p = refl
lines_ended (x ∷ xs) more p =
    let parts = or_parts (is_newline x) (list_any is_newline xs) p in
    ap (λ b. cond b ([] ∷ lines_in (xs ++ 10 ∷ more)) (with_byte x (lines_in (xs ++ 10 ∷ more)))) parts.0
    ∙ ap (with_byte x) (lines_ended xs more parts.1)

pub open_ended : (xs more : List ℕ) → open_line (xs ++ 10 ∷ more) ≡ open_line more
open_ended [] more = refl
open_ended (x ∷ xs) more =
    ap (λ b. cond b (open_line (xs ++ 10 ∷ more)) (x ∷ xs ++ 10 ∷ more))
    (ap (λ b. is_newline x || b) (list_any-append is_newline xs (10 ∷ more) ∙ or_right (list_any is_newline xs)) ∙ or_right (is_newline x))
    ∙ open_ended xs more

pub some_line : (bytes : List ℕ) → list_any is_newline bytes ≡ true → 0 < length (lines_in bytes)
some_line [] e = absurd (cc e)
some_line (byte ∷ bytes) e = by_test (is_newline byte) refl e (λ f. some_line bytes f)
  where
    filled : (lines : List (List ℕ)) → 0 < length lines → 0 < length (with_byte byte lines)
    filled [] h = absurd (omega (arith, h))
    filled (text ∷ lines) h = omega arith

    by_test : (b : Bool) → is_newline byte ≡ b → (b || list_any is_newline bytes) ≡ true
        → (list_any is_newline bytes ≡ true → 0 < length (lines_in bytes))
        → 0 < length (cond b ([] ∷ lines_in bytes) (with_byte byte (lines_in bytes)))
    by_test true f g rest = omega arith
    by_test false f g rest = filled (lines_in bytes) (rest g)

with_byte-append : (byte : ℕ) (lines more : List (List ℕ)) → 0 < length lines → with_byte byte (lines ++ more) ≡ with_byte byte lines ++ more
with_byte-append byte [] more h = absurd (omega (arith, h))
with_byte-append byte (text ∷ lines) more h = refl

-- more bytes go on where the last line is open
pub lines-append : (xs ys : List ℕ) → lines_in (xs ++ ys) ≡ lines_in xs ++ lines_in (open_line xs ++ ys)
lines-append [] ys = refl
lines-append (x ∷ xs) ys = by_tests (is_newline x) refl (list_any is_newline xs) refl (lines-append xs ys)
  where
    by_tests : (b : Bool) → is_newline x ≡ b → (c : Bool) → list_any is_newline xs ≡ c
        → lines_in (xs ++ ys) ≡ lines_in xs ++ lines_in (open_line xs ++ ys)
        → cond b ([] ∷ lines_in (xs ++ ys)) (with_byte x (lines_in (xs ++ ys)))
        ≡ cond b ([] ∷ lines_in xs) (with_byte x (lines_in xs)) ++ lines_in (cond (b || c) (open_line xs) (x ∷ xs) ++ ys)
    by_tests true e c f h = ap (λ l. [] ∷ l) h
    by_tests false e true f h =
        ap (with_byte x) h ∙ with_byte-append x (lines_in xs) (lines_in (open_line xs ++ ys)) (some_line xs f)
    by_tests false e false f h =
        ap (λ b. cond b ([] ∷ lines_in (xs ++ ys)) (with_byte x (lines_in (xs ++ ys)))) (sym e)
        ∙ ap (λ l. with_byte x l ++ lines_in ((x ∷ xs) ++ ys)) (sym (lines_plain xs f))

pub open-append : (xs ys : List ℕ) → open_line (xs ++ ys) ≡ open_line (open_line xs ++ ys)
open-append [] ys = refl
open-append (x ∷ xs) ys = by_test (list_any is_newline (x ∷ xs)) refl (open-append xs ys)
  where
    more : list_any is_newline (x ∷ xs) ≡ true → list_any is_newline (x ∷ (xs ++ ys)) ≡ true
    more e = list_any-append is_newline (x ∷ xs) ys ∙ ap (λ b. b || list_any is_newline ys) e

    by_test : (b : Bool) → list_any is_newline (x ∷ xs) ≡ b → open_line (xs ++ ys) ≡ open_line (open_line xs ++ ys)
        → open_line (x ∷ (xs ++ ys)) ≡ open_line (cond b (open_line xs) (x ∷ xs) ++ ys)
    by_test true e rest = ap (λ b. cond b (open_line (xs ++ ys)) (x ∷ (xs ++ ys))) (more e) ∙ rest
    by_test false e rest = refl

-- a line that goes on from plain bytes has these in front
pub first_line : (xs ys text : List ℕ) (lines : List (List ℕ)) → IsPlain xs → lines_in (xs ++ ys) ≡ text ∷ lines → length xs ≤ length text
first_line [] ys text lines p e = omega arith
first_line (x ∷ xs) ys text lines p e =
    let parts = or_parts (is_newline x) (list_any is_newline xs) p in
    by_lines (lines_in (xs ++ ys)) refl
    (ap (λ b. cond b ([] ∷ lines_in (xs ++ ys)) (with_byte x (lines_in (xs ++ ys)))) (sym parts.0) ∙ e) (λ t ls f. first_line xs ys t ls parts.1 f)
  where
    by_lines : (ls : List (List ℕ)) → lines_in (xs ++ ys) ≡ ls → with_byte x ls ≡ text ∷ lines
        → ((t : List ℕ) (rest : List (List ℕ)) → lines_in (xs ++ ys) ≡ t ∷ rest → length xs ≤ length t) → length (x ∷ xs) ≤ length text
    by_lines [] f g rest = absurd (cc g)
    by_lines (t ∷ ls) f g rest =
        let same : x ∷ t ≡ text = cc in
        omega (arith, rest t ls f, ap length same)

-- where the first newline stands
before_plain : (bytes : List ℕ) → IsPlain (take (position_or_len is_newline bytes) bytes)
before_plain [] = refl
before_plain (byte ∷ bytes) = by_test (is_newline byte) refl (before_plain bytes)
  where
    one : (n : ℕ) → 1 + n ≡ suc n
    one n = omega arith

    by_test : (b : Bool) → is_newline byte ≡ b → IsPlain (take (position_or_len is_newline bytes) bytes)
        → IsPlain (take (cond (not b) (1 + position_or_len is_newline bytes) 0) (byte ∷ bytes))
    by_test true e rest = refl
    by_test false e rest =
        ap (λ n. list_any is_newline (take n (byte ∷ bytes))) (one (position_or_len is_newline bytes))
        ∙ ap (λ b. b || list_any is_newline (take (position_or_len is_newline bytes) bytes)) e ∙ rest

pub record IsLineEnd (bytes : List ℕ) (end : ℕ) : Type 0 where
  pub within : end < length bytes
  pub split : bytes ≡ take end bytes ++ 10 ∷ drop (end + 1) bytes
  pub plain : IsPlain (take end bytes)

pub found_end : (bytes : List ℕ) (end : ℕ) → position is_newline bytes ≡ Some end → IsLineEnd bytes end
found_end bytes end e = by_test (nat_lt (position_or_len is_newline bytes) (length bytes)) refl e
  where
    by_test : (b : Bool) → nat_lt (position_or_len is_newline bytes) (length bytes) ≡ b
        → cond b (Some (position_or_len is_newline bytes)) None ≡ Some end → IsLineEnd bytes end
    by_test true f g =
        let within = ltb-true (position_or_len is_newline bytes) (length bytes) f in
        let same : position_or_len is_newline bytes ≡ end = cc in
        let ten : get_or bytes (position_or_len is_newline bytes) 0 ≡ 10 =
        eqb-true (get_or bytes (position_or_len is_newline bytes) 0) 10 (not-false (is_newline (get_or bytes (position_or_len is_newline bytes) 0)) (prefix_len_stops (λ b. not (is_newline b)) bytes 0 within)) in
        subst (IsLineEnd bytes) same (record {
          within = within;
          split = split_at_first is_newline bytes 0 within
              ∙ ap (λ b. take (position_or_len is_newline bytes) bytes ++ b ∷ drop (position_or_len is_newline bytes + 1) bytes) ten;
          plain = before_plain bytes;
        })
    by_test false f g = absurd (cc g)

pub no_end : (bytes : List ℕ) → position is_newline bytes ≡ None → IsPlain bytes
no_end bytes e = by_test (nat_lt (position_or_len is_newline bytes) (length bytes)) refl e
  where
    by_test : (b : Bool) → nat_lt (position_or_len is_newline bytes) (length bytes) ≡ b
        → cond b (Some (position_or_len is_newline bytes)) None ≡ None → IsPlain bytes
    by_test true f g = absurd (cc g)
    by_test false f g =
        ap (list_any is_newline) (sym (take_all (position_or_len is_newline bytes) bytes (ltb-false (position_or_len is_newline bytes) (length bytes) f)))
        ∙ before_plain bytes

-- the parts of the bytes as slices of them
pub split_found : (bytes : List ℕ) (end : ℕ) → Some end ≡ position is_newline bytes
    → IsSplitAtLine bytes (take end bytes) (take (length bytes - (end + 1)) (drop (end + 1) bytes))
split_found bytes end e =
    let found = found_end bytes end (sym e) in
    let all : take (length bytes - (end + 1)) (drop (end + 1) bytes) ≡ drop (end + 1) bytes =
    take_all (length bytes - (end + 1)) (drop (end + 1) bytes) (omega (arith, length-drop (end + 1) bytes)) in
    record { split = found.split ∙ ap (λ l. take end bytes ++ 10 ∷ l) (sym all); plain = found.plain }
