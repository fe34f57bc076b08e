-- Numbers as words.
use Rattle.std.specs.Prelude.{ℕ, ◌&&◌, ◌==◌, Bool, not, length, nat_le, nat_lt, Option, Some, None, if◌then◌else◌, slice_index}
use Rattle.std.specs.List.{list_all}
use Rattle.std.specs.Char.{is_ascii_digit}
use Rattle.std.specs.Str.Parse.{digits_value}
use Rattle.plain_words.specs.Form.{Text}

-- a zero (48) stands before other digits
abbrev pub has_leading_zero : Text → Bool
has_leading_zero word = nat_lt 1 (length word) && slice_index word 0 == 48

-- A number is written in decimal digits, without a sign and without a leading zero other than in `0` itself.
abbrev pub is_number : Text → Bool
is_number word = not (length word == 0) && list_all is_ascii_digit word && not (has_leading_zero word)

-- Another spelling, or a number above the most, is none.
abbrev pub number_up_to : ℕ → Text → Option ℕ
number_up_to most word = if is_number word && nat_le (digits_value 10 word) most then Some (digits_value 10 word) else None
