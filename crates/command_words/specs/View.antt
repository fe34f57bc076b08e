-- The code's rows and commands as contracts see them.
use Rattle.std.specs.Option.{option_map}
use Rattle.plain_words.specs.View.{form_of}
use Rattle.command_words.specs.declared.command.Chart.{Chart}
use Rattle.command_words.specs.declared.command.Command.{Command}
use Rattle.command_words.specs.declared.command.Command.TheVariants as commands
use Rattle.command_words.specs.declared.command.Generated.{Generated}
use Rattle.command_words.specs.declared.table.TableRow.{TableRow}
use Rattle.command_words.specs.Command.{ChartView, CommandView, GeneratedView, solve, check_of, cost, bound_all, patterns, platforms, paths, make, trial}
use Rattle.command_words.specs.Table.{RowView}

abbrev pub row_view : TableRow → RowView
row_view row = record { name = row.name; form = form_of row.row }

abbrev pub chart_view : Chart → ChartView
chart_view chart = record { instance = chart.instance.now; plan = chart.plan.now; from = chart.from; to = chart.to }

abbrev pub generated_view : Generated → GeneratedView
generated_view station = record { number = station.number; trains = station.trains }

abbrev pub view_of : Command → CommandView
view_of (commands.Solve command) = solve (record {
  instance = command.instance.now;
  splits = command.splits;
  plan = option_map (λ file. file.now) command.plan;
  proof = option_map (λ file. file.now) command.proof;
})
view_of (commands.Check command) = check_of command.instance.now command.proof.now (option_map (λ file. file.now) command.plan)
view_of (commands.Cost command) = cost command.instance.now command.plan.now
view_of (commands.Bound command) = bound_all command.instance.now
view_of (commands.Patterns command) = patterns command.instance.now
view_of (commands.Platforms chart) = platforms (chart_view chart)
view_of (commands.Paths chart) = paths (chart_view chart)
view_of (commands.Make station) = make (generated_view station)
view_of (commands.Trial station) = trial (generated_view station)
