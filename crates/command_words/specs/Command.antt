-- Which words are a command.
use Rattle.std.specs.Prelude.{ℕ, ◌&&◌, not, Bool, false, List, [], ◌∷◌, Option, Some, None, if◌then◌else◌, codes, drop, find}
use Rattle.std.specs.Option.{option_map, option_and_then}
use Rattle.std.specs.Str.{bytes_eq}
use Rattle.plain_words.specs.Form.{Text}
use Rattle.plain_words.specs.Rules.{are_plain, named_words, option_value}
use Rattle.command_words.specs.declared.table.CommandName.{CommandName}
use Rattle.command_words.specs.declared.table.CommandName.TheVariants as names
use Rattle.command_words.specs.Number.{number_up_to}
use Rattle.command_words.specs.Table.{RowView, command_table}

-- a chart's files and window
pub record ChartView : Type 0 where
  pub instance : Text
  pub plan : Text
  pub from : ℕ
  pub to : ℕ

-- a search's files, and how often it may split
pub record SolveView : Type 0 where
  pub instance : Text
  pub splits : ℕ
  pub plan : Option Text
  pub proof : Option Text

-- a check's files
pub record CheckView : Type 0 where
  pub instance : Text
  pub proof : Text
  pub plan : Option Text

-- the number that a station is made from, and how many trains it has
pub record GeneratedView : Type 0 where
  pub number : ℕ
  pub trains : ℕ

-- a command with its names and numbers
pub data CommandView : Type 0 where
  solve : SolveView → CommandView
  check : CheckView → CommandView
  cost : (instance plan : Text) → CommandView
  bound_all : (instance : Text) → CommandView
  patterns : (instance : Text) → CommandView
  platforms : ChartView → CommandView
  paths : ChartView → CommandView
  make : GeneratedView → CommandView
  trial : GeneratedView → CommandView

-- A minute is at most 9,999.
abbrev pub minute_of : Text → Option ℕ
minute_of word = number_up_to 9999 word

-- There are at most 2^40 splits, and 10,000 where no number is given.
abbrev pub splits_of : Option Text → Option ℕ
splits_of None = Some 10_000
splits_of (Some word) = number_up_to 1_099_511_627_776 word

-- the file is that one
abbrev pub is_file : Option Text → Text → Bool
is_file None name = false
is_file (Some file) name = bytes_eq file name

-- both are one file
abbrev pub are_one : Option Text → Option Text → Bool
are_one a None = false
are_one a (Some file) = is_file a file

-- A file that is written isn't the instance, nor the other file that is written.
abbrev pub are_apart : Text → Option Text → Option Text → Bool
are_apart instance plan proof = not (is_file plan instance) && not (is_file proof instance) && not (are_one plan proof)

abbrev pub solve_of : Text → Option Text → Option Text → Option Text → Option CommandView
solve_of instance splits plan proof =
    option_and_then
    (λ count. if are_apart instance plan proof then Some (solve (record { instance = instance; splits = count; plan = plan; proof = proof })) else None)
    (splits_of splits)

abbrev pub check_of : Text → Text → Option Text → CommandView
check_of instance proof plan = check (record { instance = instance; proof = proof; plan = plan })

-- Both minutes are numbers.
abbrev pub chart_of : Text → Text → Text → Text → Option ChartView
chart_of instance plan from to =
    option_and_then (λ first. option_map (λ end. record { instance = instance; plan = plan; from = first; to = end }) (minute_of to)) (minute_of from)

-- The number is below 2^64, and there are at most 200 trains.
abbrev pub generated_of : Text → Text → Option GeneratedView
generated_of number trains =
    option_and_then (λ seed. option_map (λ count. record { number = seed; trains = count }) (number_up_to 200 trains))
    (number_up_to 18_446_744_073_709_551_615 number)

-- what is made of the words where they are just one, two or four
abbrev pub of_one : {A : Type 0} → List Text → (Text → Option A) → Option A
of_one (a ∷ []) build = build a
of_one words build = None

abbrev pub of_two : {A : Type 0} → List Text → (Text → Text → Option A) → Option A
of_two (a ∷ b ∷ []) build = build a b
of_two words build = None

-- what is made of two words, or of three
abbrev pub of_two_or_three : {A : Type 0} → List Text → (Text → Text → Option Text → Option A) → Option A
of_two_or_three (a ∷ b ∷ []) build = build a b None
of_two_or_three (a ∷ b ∷ c ∷ []) build = build a b (Some c)
of_two_or_three words build = None

abbrev pub of_four : {A : Type 0} → List Text → (Text → Text → Text → Text → Option A) → Option A
of_four (a ∷ b ∷ c ∷ d ∷ []) build = build a b c d
of_four words build = None

-- a command by its named words and the values of its options
abbrev pub named_command : CommandName → List Text → (Text → Option Text) → Option CommandView
named_command names.Solve named value =
    of_one named (λ instance. solve_of instance (value (codes "splits")) (value (codes "plan")) (value (codes "proof")))
named_command names.Check named value = of_two_or_three named (λ instance proof plan. Some (check_of instance proof plan))
named_command names.Cost named value = of_two named (λ instance plan. Some (cost instance plan))
named_command names.Bound named value = of_one named (λ instance. Some (bound_all instance))
named_command names.Patterns named value = of_one named (λ instance. Some (patterns instance))
named_command names.Platforms named value = of_four named (λ instance plan from to. option_map platforms (chart_of instance plan from to))
named_command names.Paths named value = of_four named (λ instance plan from to. option_map paths (chart_of instance plan from to))
named_command names.Make named value = of_two named (λ number trains. option_map make (generated_of number trains))
named_command names.Trial named value = of_two named (λ number trains. option_map trial (generated_of number trains))

-- The command of a row, where the words behind the first are plain for it.
abbrev pub row_command : RowView → List Text → Option CommandView
row_command row words = if are_plain row.form words then named_command row.name (named_words words) (λ name. option_value name words) else None

-- The first word picks the row of the table that has it.
abbrev pub picked_row : List Text → Option RowView
picked_row [] = None
picked_row (word ∷ words) = find (λ row. bytes_eq row.form.word word) command_table

-- The command that words are: they pick a row, and the words behind the first are plain for it. Otherwise they are none.
abbrev pub command_of : List Text → Option CommandView
command_of words = option_and_then (λ row. row_command row (drop 1 words)) (picked_row words)
