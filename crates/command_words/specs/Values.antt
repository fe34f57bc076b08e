-- A command by the values that its arguments and options have under their names.
use Rattle.std.specs.Prelude.{Option, Some, None, codes}
use Rattle.std.specs.Option.{option_map, option_and_then}
use Rattle.plain_words.specs.Form.{Text}
use Rattle.command_words.specs.declared.table.CommandName.{CommandName}
use Rattle.command_words.specs.declared.table.CommandName.TheVariants as names
use Rattle.command_words.specs.Command.{ChartView, CommandView, GeneratedView, cost, bound_all, patterns, platforms, paths, make, trial, solve_of, check_of, chart_of, generated_of}

abbrev pub chart_from : (Text → Option Text) → Text → Option ChartView
chart_from value instance =
    option_and_then (λ plan. option_and_then (λ from. option_and_then (λ to. chart_of instance plan from to) (value (codes "TO"))) (value (codes "FROM"))) (value (codes "PLAN"))

abbrev pub command_from : CommandName → (Text → Option Text) → Text → Option CommandView
command_from names.Solve value instance = solve_of instance (value (codes "splits")) (value (codes "plan")) (value (codes "proof"))
command_from names.Check value instance = option_and_then (λ proof. Some (check_of instance proof (value (codes "PLAN")))) (value (codes "PROOF"))
command_from names.Cost value instance = option_and_then (λ plan. Some (cost instance plan)) (value (codes "PLAN"))
command_from names.Bound value instance = Some (bound_all instance)
command_from names.Patterns value instance = Some (patterns instance)
command_from names.Platforms value instance = option_map platforms (chart_from value instance)
command_from names.Paths value instance = option_map paths (chart_from value instance)
command_from names.Make value instance = None
command_from names.Trial value instance = None

abbrev pub generated_from : (Text → Option Text) → Option GeneratedView
generated_from value = option_and_then (λ number. option_and_then (λ trains. generated_of number trains) (value (codes "TRAINS"))) (value (codes "NUMBER"))

abbrev pub values_command : CommandName → (Text → Option Text) → Option CommandView
values_command names.Make value = option_map make (generated_from value)
values_command names.Trial value = option_map trial (generated_from value)
values_command name value = option_and_then (command_from name value) (value (codes "INSTANCE"))
