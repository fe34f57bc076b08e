-- What a command reads, writes and reports.
use Rattle.std.specs.Prelude.{◌≡◌, ◌⊎◌, ℕ, Bool, List, if◌then◌else◌, Option, None, Some}
use Rattle.std.specs.Option.{option_map, option_and_then}
use Rattle.command_words.specs.Command.{CommandView, ChartView, solve, check, cost, bound_all, patterns, platforms, paths}
use Rattle.station.specs.Allowed.{StationRecord}
use Rattle.station_reader.specs.Reading.{taken}
use Rattle.diagram.specs.Text.{is_window}
use Rattle.platform_cli.specs.declared.asked.Report.{Report}
use Rattle.platform_cli.specs.declared.asked.Report.TheVariants.{Cost, Platforms, Paths}
use Rattle.platform_cli.specs.declared.asked.Window.{Window}
use Rattle.platform_cli.specs.Instance.{Held, IsInstance}

-- a report on a plan, with the names of the instance and of the plan
pub record AskedView : Type 0 where
  pub instance : List ℕ
  pub plan : List ℕ
  pub report : Report

abbrev pub window_in : ChartView → Window
window_in chart = record { from = chart.from; to = chart.to }

-- the report that the words ask for
abbrev pub requested : Option CommandView → Option AskedView
requested (Some (cost instance plan)) = Some (record { instance = instance; plan = plan; report = Cost })
requested (Some (platforms chart)) = Some (record { instance = chart.instance; plan = chart.plan; report = Platforms (window_in chart) })
requested (Some (paths chart)) = Some (record { instance = chart.instance; plan = chart.plan; report = Paths (window_in chart) })
requested command = None

abbrev pub unless_drawn : Window → Option Window
unless_drawn window = if is_window window.from window.to then None else Some window

-- the minutes that are asked for, where no chart has them
abbrev pub bad_window : Report → Option Window
bad_window Cost = None
bad_window (Platforms window) = unless_drawn window
bad_window (Paths window) = unless_drawn window

abbrev pub bad_window_of : Option CommandView → Option Window
bad_window_of command = option_and_then (λ asked. bad_window asked.report) (requested command)

abbrev pub unless_bad : Option Window → AskedView → Option AskedView
unless_bad None asked = Some asked
unless_bad (Some window) asked = None

-- the report that the words ask for, where it is of minutes that charts have
abbrev pub asked_of : Option CommandView → Option AskedView
asked_of command = option_and_then (λ asked. unless_bad (bad_window asked.report) asked) (requested command)

-- the name of the instance that a command reads: a chart of minutes that no chart has reads none
abbrev pub instance_of : Option CommandView → Option (List ℕ)
instance_of (Some (solve words)) = Some words.instance
instance_of (Some (check words)) = Some words.instance
instance_of (Some (bound_all instance)) = Some instance
instance_of (Some (patterns instance)) = Some instance
instance_of command = option_map (λ asked. asked.instance) (asked_of command)

-- the name of the proof that a command reads
abbrev pub proof_of : Option CommandView → Option (List ℕ)
proof_of (Some (check words)) = Some words.proof
proof_of command = None

-- the name of the plan that a command reads
abbrev pub plan_of : Option CommandView → Option (List ℕ)
plan_of (Some (check words)) = words.plan
plan_of command = option_map (λ asked. asked.plan) (asked_of command)

-- the name of the file that gets the plan
abbrev pub plan_file_of : Option CommandView → Option (List ℕ)
plan_file_of (Some (solve words)) = words.plan
plan_file_of command = None

-- the name of the file that gets the proof
abbrev pub proof_file_of : Option CommandView → Option (List ℕ)
proof_file_of (Some (solve words)) = words.proof
proof_file_of command = None

-- What the shelf holds under the name of the instance, where it tells, is read as a station.
pub record IsTaken (tells : Bool) (held : Held) (command : Option CommandView) : Type 0 where
  pub instance : List ℕ
  pub asked : instance_of command ≡ Some instance
  pub station : StationRecord
  pub read : IsInstance tells held instance (taken station)

-- the names of the files that a command reads: the instance, and a proof and a plan where the instance is a station
abbrev pub Reads : Bool → Held → Option CommandView → List ℕ → Type 0
Reads tells held command name =
    (instance_of command ≡ Some name) ⊎ (((proof_of command ≡ Some name) ⊎ (plan_of command ≡ Some name)) × IsTaken tells held command)

-- the names of the files that a command writes
abbrev pub Writes : Option CommandView → List ℕ → Type 0
Writes command name = (plan_file_of command ≡ Some name) ⊎ (proof_file_of command ≡ Some name)
