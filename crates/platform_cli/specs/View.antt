-- The values of the code as contracts see them.
use Rattle.std.specs.Prelude.{ℕ, List, map, string_bytes, Result, Ok, Err, Option, Some, None}
use Rattle.branching.specs.declared.found.Priced.{Priced}
use Rattle.std.specs.Option.{option_map}
use Rattle.station_reader.specs.Reading.{Reading, taken, refused}
use Rattle.station.specs.Shown.{record_of}
use Rattle.pair_prices.specs.Case.{CaseRecord}
use Rattle.pair_prices.specs.Plan.{Fits}
use Rattle.plan_cost.specs.PlanReading.{PlanReading, taken as plan_taken, refused as plan_refused}
use Rattle.command_words.specs.declared.command.Chart.{Chart}
use Rattle.command_words.specs.declared.command.Check.{Check}
use Rattle.command_words.specs.declared.command.Solve.{Solve}
use Rattle.command_words.specs.Command.{CheckView, SolveView}
use Rattle.leaf_bounds.specs.declared.tree.Bound.{Bound}
use Rattle.proof_rules.specs.declared.refused.ProofRefused.{ProofRefused}
use Rattle.platform_cli.specs.declared.asked.Asked.{Asked}
use Rattle.platform_cli.specs.declared.asked.Report.{Report}
use Rattle.platform_cli.specs.declared.instance.Instance.{Instance}
use Rattle.platform_cli.specs.declared.instance.Instance.TheVariants as instances
use Rattle.platform_cli.specs.declared.output.Output.{Output}
use Rattle.platform_cli.specs.declared.output.OutputFile.{OutputFile}
use Rattle.platform_cli.specs.declared.plan_file.GivenPlan.{GivenPlan}
use Rattle.platform_cli.specs.declared.plan_file.GivenPlan.TheVariants as plans
use Rattle.platform_cli.specs.declared.given_proof.GivenProof.{GivenProof}
use Rattle.platform_cli.specs.declared.given_proof.GivenProof.TheVariants as proofs
use Rattle.platform_cli.specs.Asked.{AskedView}
use Rattle.platform_cli.specs.Given.{NewFile, Outcome}
use Rattle.platform_cli.specs.Statuses.{ending_code}

abbrev pub asked_view : Asked → AskedView
asked_view asked = record { instance = asked.instance.now; plan = asked.plan.now; report = asked.report }

abbrev pub chart_asked : Chart → Report → AskedView
chart_asked chart report = record { instance = chart.instance.now; plan = chart.plan.now; report = report }

abbrev pub reading_of : Instance → Reading
reading_of (instances.Taken station) = taken (record_of station)
reading_of (instances.Refused refusal) = refused refusal.kind refusal.place

abbrev pub plan_reading_of : GivenPlan → PlanReading
plan_reading_of (plans.Taken plan) = plan_taken plan.choice
plan_reading_of (plans.Refused refusal) = plan_refused refusal

-- a plan that was taken fits
abbrev pub FitsGiven : CaseRecord → GivenPlan → Type 0
FitsGiven c (plans.Taken plan) = Fits c plan.choice
FitsGiven c (plans.Refused refusal) = Unit {0}

-- the numbers of the plan that is known, if there is one
abbrev pub known_plan : Option Priced → Option (List ℕ)
known_plan None = None
known_plan (Some priced) = Some priced.plan.choice

abbrev pub file_of : OutputFile → NewFile
file_of file = record { name = string_bytes file.name; bytes = file.bytes.items }

abbrev pub outcome_of : Output → Outcome
outcome_of output = record { code = ending_code output.ending; text = output.text.items; files = map file_of output.files.items }

abbrev pub proof_reading_of : GivenProof → Result Bound ProofRefused
proof_reading_of (proofs.Accepted bound) = Ok bound
proof_reading_of (proofs.Refused refusal) = Err refusal

abbrev pub solve_view : Solve → SolveView
solve_view words = record {
  instance = words.instance.now;
  splits = words.splits;
  plan = option_map (λ name. name.now) words.plan;
  proof = option_map (λ name. name.now) words.proof;
}

abbrev pub check_view : Check → CheckView
check_view words = record { instance = words.instance.now; proof = words.proof.now; plan = option_map (λ name. name.now) words.plan }
