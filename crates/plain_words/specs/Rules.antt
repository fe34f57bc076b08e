-- Which words after a command are plain, and what they say.
use Rattle.std.specs.Prelude.{◌+◌, ◌&&◌, ◌||◌, ◌==◌, Bool, true, false, not, List, [], ◌∷◌, length, nat_le, Option, None, if◌then◌else◌, slice_get}
use Rattle.std.specs.List.{list_all, list_any}
use Rattle.std.specs.Str.{bytes_eq}
use Rattle.plain_words.specs.Form.{Text, CommandForm, option_names}

-- a word that begins with a dash (45)
abbrev pub is_dashed : Text → Bool
is_dashed [] = false
is_dashed (first ∷ rest) = first == 45

-- an option is written as two dashes and its name
abbrev pub option_word : Text → Text
option_word name = 45 ∷ 45 ∷ name

-- No word is empty.
abbrev pub has_no_empty : List Text → Bool
has_no_empty words = list_all (λ word. not (length word == 0)) words

-- Each word that begins with a dash is one of the options.
abbrev pub is_option : List Text → Text → Bool
is_option names word = list_any (λ name. bytes_eq (option_word name) word) names

abbrev pub has_known_options : List Text → List Text → Bool
has_known_options names words = list_all (λ word. not (is_dashed word) || is_option names word) words

-- No word that begins with a dash stands again.
abbrev pub has_options_once : List Text → Bool
has_options_once [] = true
has_options_once (word ∷ words) = (not (is_dashed word) || not (list_any (bytes_eq word) words)) && has_options_once words

-- Each word that begins with a dash is followed by one that doesn't, its value.
abbrev pub begins_with_value : List Text → Bool
begins_with_value [] = false
begins_with_value (word ∷ words) = not (is_dashed word)

abbrev pub has_values : List Text → Bool
has_values [] = true
has_values (word ∷ words) = (not (is_dashed word) || begins_with_value words) && has_values words

-- The named words are neither options nor values: they don't begin with a dash, nor does the word before.
abbrev pub named_after : Bool → List Text → List Text
named_after is_value [] = []
named_after is_value (word ∷ words) = if is_value || is_dashed word then named_after (is_dashed word) words else word ∷ named_after (is_dashed word) words

abbrev pub named_words : List Text → List Text
named_words words = named_after false words

-- The named words are as many as the command's arguments, of which the last may be missing.
abbrev pub has_arguments : CommandForm → List Text → Bool
has_arguments form words = nat_le (length (named_words words)) (length form.arguments) && nat_le (length form.arguments) (length (named_words words) + form.missing)

-- The words after a command are plain where all five rules hold.
abbrev pub are_plain : CommandForm → List Text → Bool
are_plain form words = has_no_empty words && has_known_options (option_names form) words && has_options_once words && has_values words && has_arguments form words

-- The value of an option is the word behind it.
abbrev pub option_value : Text → List Text → Option Text
option_value name [] = None
option_value name (word ∷ words) = if bytes_eq word (option_word name) then slice_get words 0 else option_value name words
