-- A number that doesn't fit is above each limit.
use Rattle.std.proofs.Common.{◌≡◌, ℕ, ◌<◌, ◌≤◌, ◌^◌, ◌&&◌, ◌==◌, not, Bool, true, false, nat_le, length, None, Err, refl, arith, rules}
use Rattle.std.specs.List.{list_all}
use Rattle.std.specs.Char.{is_ascii_digit}
use Rattle.std.specs.Str.Parse.{ParsesUnsigned, digits_value}
use Rattle.std.proofs.lemmas.Bool.Decides.{nat_tests}
use Rattle.std.proofs.lemmas.Str.Parse.{IsNumeralModel, numerals_by_value, parse_digits}
use Rattle.plain_words.specs.Form.{Text}
use Rattle.plain_words.proofs.Split.{both_true}
use Rattle.command_words.specs.Number.{has_leading_zero, is_number, number_up_to}

digits : IsNumeralModel (λ word. list_all is_ascii_digit word ≡ true) (digits_value 10)
digits = numerals_by_value _ (search rules)

some_of : (n : ℕ) → not (n == 0) ≡ true → 0 < n
some_of n is = grind (arith, nat_tests)

le_of : (m n : ℕ) → nat_le m n ≡ true → m ≤ n
le_of m n is = grind (arith, nat_tests)

pub too_large : {E : Type 0} (most : ℕ) (word : Text) (e : E) → ParsesUnsigned {E = E} 64 10 word (Err e) → is_number word ≡ true → most < 2 ^ 64 → None ≡ number_up_to most word
too_large most word e parsed number fits =
    by_test (nat_le (digits_value 10 word) most) refl
  where
    by_test : (b : Bool) → nat_le (digits_value 10 word) most ≡ b → None ≡ number_up_to most word
    by_test true within =
        let parts : ((not (length word == 0) && list_all is_ascii_digit word) ≡ true) × (not (has_leading_zero word) ≡ true) = both_true _ _ number in
        let first : (not (length word == 0) ≡ true) × (list_all is_ascii_digit word ≡ true) = both_true _ _ parts.0 in
        let some : 0 < length word = some_of (length word) first.0 in
        let least = le_of (digits_value 10 word) most within in
        let small : digits_value 10 word < 2 ^ 64 = omega arith in
        absurd (parse_digits digits 64 word (Err e) parsed first.1 (some, small))
    by_test false above = rw (number, above) refl
