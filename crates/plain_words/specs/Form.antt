-- A command as its words are written.
use Rattle.std.specs.Prelude.{ℕ, ◌&&◌, ◌==◌, Bool, true, not, List, [], ◌∷◌, ◌++◌, length, map, nat_lt}
use Rattle.std.specs.List.{list_all, list_any}
use Rattle.std.specs.Str.{bytes_eq}

abbrev pub Text : Type 0
Text = List ℕ

-- an option's name, and what its value is called
pub record OptionForm : Type 0 where
  pub name : Text
  pub value : Text

-- a command's word, its named arguments in order, how many of the last may be missing, and its options
pub record CommandForm : Type 0 where
  pub word : Text
  pub arguments : List Text
  pub missing : ℕ
  pub options : List OptionForm

abbrev pub option_names : CommandForm → List Text
option_names form = map (λ option. option.name) form.options

-- no text of the list stands again behind it
abbrev pub are_different : List Text → Bool
are_different [] = true
are_different (text ∷ texts) = not (list_any (bytes_eq text) texts) && are_different texts

-- An option's name isn't empty and has no equals sign (61).
abbrev pub is_option_name : Text → Bool
is_option_name name = not (length name == 0) && not (list_any (λ byte. byte == 61) name)

-- A command can be read where its arguments and options have different names that may be written, and 1,000 arguments at most.
abbrev pub is_readable : CommandForm → Bool
is_readable form = are_different (form.arguments ++ option_names form) && (list_all is_option_name (option_names form) && nat_lt (length form.arguments) 1000)
