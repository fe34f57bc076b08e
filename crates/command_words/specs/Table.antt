-- The commands that are built, as they stand in the usage text.
use Rattle.std.specs.Prelude.{List, [], ◌∷◌, codes}
use Rattle.plain_words.specs.Form.{CommandForm, OptionForm}
use Rattle.command_words.specs.declared.table.CommandName.{CommandName}
use Rattle.command_words.specs.declared.table.CommandName.TheVariants as names

-- which command, and how its words are written
pub record RowView : Type 0 where
  pub name : CommandName
  pub form : CommandForm

abbrev pub plan_option : OptionForm
plan_option = record { name = codes "plan"; value = codes "FILE" }

abbrev pub splits_option : OptionForm
splits_option = record { name = codes "splits"; value = codes "N" }

abbrev pub proof_option : OptionForm
proof_option = record { name = codes "proof"; value = codes "FILE" }

-- solve INSTANCE [--splits N] [--plan FILE] [--proof FILE]
abbrev pub solve_row : RowView
solve_row = record {
  name = names.Solve;
  form = record { word = codes "solve"; arguments = codes "INSTANCE" ∷ []; missing = 0; options = splits_option ∷ plan_option ∷ proof_option ∷ [] };
}

-- check INSTANCE PROOF [PLAN]
abbrev pub check_row : RowView
check_row = record {
  name = names.Check;
  form = record { word = codes "check"; arguments = codes "INSTANCE" ∷ codes "PROOF" ∷ codes "PLAN" ∷ []; missing = 1; options = [] };
}

-- cost INSTANCE PLAN
abbrev pub cost_row : RowView
cost_row = record { name = names.Cost; form = record { word = codes "cost"; arguments = codes "INSTANCE" ∷ codes "PLAN" ∷ []; missing = 0; options = [] } }

-- bound INSTANCE
abbrev pub bound_row : RowView
bound_row = record { name = names.Bound; form = record { word = codes "bound"; arguments = codes "INSTANCE" ∷ []; missing = 0; options = [] } }

-- patterns INSTANCE
abbrev pub patterns_row : RowView
patterns_row = record { name = names.Patterns; form = record { word = codes "patterns"; arguments = codes "INSTANCE" ∷ []; missing = 0; options = [] } }

-- platforms INSTANCE PLAN FROM TO
abbrev pub platforms_row : RowView
platforms_row = record { name = names.Platforms; form = record { word = codes "platforms"; arguments = codes "INSTANCE" ∷ codes "PLAN" ∷ codes "FROM" ∷ codes "TO" ∷ []; missing = 0; options = [] } }

-- paths INSTANCE PLAN FROM TO
abbrev pub paths_row : RowView
paths_row = record { name = names.Paths; form = record { word = codes "paths"; arguments = codes "INSTANCE" ∷ codes "PLAN" ∷ codes "FROM" ∷ codes "TO" ∷ []; missing = 0; options = [] } }

-- make NUMBER TRAINS
abbrev pub make_row : RowView
make_row = record { name = names.Make; form = record { word = codes "make"; arguments = codes "NUMBER" ∷ codes "TRAINS" ∷ []; missing = 0; options = [] } }

-- trial NUMBER TRAINS
abbrev pub trial_row : RowView
trial_row = record { name = names.Trial; form = record { word = codes "trial"; arguments = codes "NUMBER" ∷ codes "TRAINS" ∷ []; missing = 0; options = [] } }

abbrev pub command_table : List RowView
command_table = solve_row ∷ check_row ∷ cost_row ∷ bound_row ∷ patterns_row ∷ platforms_row ∷ paths_row ∷ make_row ∷ trial_row ∷ []
