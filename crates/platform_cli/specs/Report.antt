-- The texts that runs put, line by line.
use Rattle.std.specs.Prelude.{ℕ, ℤ, Option, Some, None, Bool, false, if◌then◌else◌, List, [], ◌∷◌, ◌++◌, codes, decimal, pos}
use Rattle.std.specs.Fmt.{signed_decimal}
use Rattle.std.specs.Ordering.{int_eq}
use Rattle.station_reader.specs.declared.refusal.RefusedKind.{RefusedKind}
use Rattle.station_reader.specs.declared.refusal.RefusedKind.TheVariants.{Long, NotJson, Version, Shape, Count, Name, Double, Unknown, Range, Patterns}
use Rattle.pair_prices.specs.Case.{CaseRecord}
use Rattle.pair_prices.specs.Plan.{cost}
use Rattle.diagram.specs.Text.{timetable_text, platform_text, path_text}
use Rattle.reports.specs.Text.{cost_text}
use Rattle.serde_json.specs.Written.{compact_text}
use Rattle.station_gen.specs.Json.{json_of}
use Rattle.station_gen.specs.Made.{made_station}
use Rattle.exact_lp.specs.declared.answer.WeakCause.{WeakCause}
use Rattle.exact_lp.specs.declared.answer.WeakCause.TheVariants as causes
use Rattle.branching.specs.declared.found.Root.{Root}
use Rattle.branching.specs.RootLine.{root_bound}
use Rattle.leaf_bounds.specs.declared.tree.Bound.{Bound}
use Rattle.leaf_bounds.specs.declared.tree.Bound.TheVariants.{AtLeast, Nothing}
use Rattle.proof_rules.specs.declared.refused.ProofKind.{ProofKind}
use Rattle.proof_rules.specs.declared.refused.ProofKind.TheVariants as kinds
use Rattle.proof_rules.specs.declared.refused.ProofRefused.{ProofRefused}
use Rattle.platform_cli.specs.declared.asked.Report.{Report}
use Rattle.platform_cli.specs.declared.asked.Report.TheVariants.{Cost, Platforms, Paths}

abbrev pub line : List ℕ → List ℕ
line text = text ++ 10 ∷ []

-- the word for why a root line is weak
abbrev pub cause_text : WeakCause → List ℕ
cause_text causes.Left = codes "left"
cause_text (causes.Pivots n) = codes "pivots"
cause_text (causes.Rounds n) = codes "rounds"
cause_text (causes.Cells n) = codes "cells"
cause_text (causes.Scale n) = codes "scale"

-- whether the fraction is the least cost of a fractional plan
abbrev pub standing_text : Option WeakCause → List ℕ
standing_text None = codes "exact"
standing_text (Some cause) = codes "weak " ++ cause_text cause

-- the root line: a fraction, and how it stands
unfoldable pub root_text : Root → List ℕ
root_text root =
    line (codes "root " ++ signed_decimal root.value.num ++ codes "/" ++ signed_decimal root.value.den ++ codes " " ++ standing_text root.weak)

-- a bound, or that no plan is feasible
abbrev pub bound_line : Bound → List ℕ
bound_line (AtLeast n) = line (codes "bound " ++ signed_decimal n)
bound_line Nothing = line (codes "bound none")

-- the root line, and what its fraction says of the cost of plans
unfoldable pub bound_text : CaseRecord → Root → List ℕ
bound_text c root = root_text root ++ bound_line (root_bound c root.value)

-- a cost, or that none is known
abbrev pub price_line : Option ℤ → List ℕ
price_line None = line (codes "cost none")
price_line (Some n) = line (codes "cost " ++ signed_decimal n)

-- the summary of a trial: its trains, how the search ended, the cost and the bound that are known, the root line, and that the proof
-- of this run is accepted
unfoldable pub trial_text : ℕ → List ℕ → Option ℤ → Bound → Root → List ℕ
trial_text trains word price bound root =
    line (codes "trains " ++ decimal trains) ++ line word ++ price_line price ++ bound_line bound ++ root_text root ++ line (codes "proof accepted")

-- the word, the plan's cost, the root line, and a line for each train
abbrev pub optimal_text : CaseRecord → List ℕ → Root → List ℕ
optimal_text c plan root = line (codes "Optimal") ++ line (codes "cost " ++ decimal (cost c plan)) ++ root_text root ++ timetable_text c plan

-- the word, and the root line
abbrev pub no_plan_text : Root → List ℕ
no_plan_text root = line (codes "NoPlan") ++ root_text root

-- the number and the word of each class of refusal
abbrev pub class_text : RefusedKind → List ℕ
class_text Long = codes "0 Long"
class_text NotJson = codes "1 NotJson"
class_text Version = codes "2 Version"
class_text Shape = codes "3 Shape"
class_text Count = codes "4 Count"
class_text Name = codes "5 Name"
class_text Double = codes "6 Double"
class_text Unknown = codes "7 Unknown"
class_text Range = codes "8 Range"
class_text Patterns = codes "9 Patterns"

-- the line of a refused instance: the class, and the place in the instance's text
abbrev pub refused_line : List ℕ → List ℕ → List ℕ
refused_line class place = line (codes "Instance refused " ++ class ++ codes " at " ++ place)

abbrev pub refused_text : RefusedKind → List ℕ → List ℕ
refused_text kind place = refused_line (class_text kind) place

-- the cost of a plan, or that none is known
abbrev pub known_cost : CaseRecord → Option (List ℕ) → List ℕ
known_cost c None = codes "cost none"
known_cost c (Some plan) = codes "cost " ++ decimal (cost c plan)

abbrev pub known_timetable : CaseRecord → Option (List ℕ) → List ℕ
known_timetable c None = []
known_timetable c (Some plan) = timetable_text c plan

-- the bound and the splits that are spent
unfoldable pub spent_lines : ℤ → ℕ → List ℕ
spent_lines bound splits = line (codes "bound " ++ signed_decimal bound) ++ line (codes "splits " ++ decimal splits)

-- where the splits are spent: the cost of the plan that is known, the bound, the splits, the root line, and a line for each train of
-- the plan
abbrev pub open_text : CaseRecord → Option (List ℕ) → ℤ → ℕ → Root → List ℕ
open_text c known bound splits root =
    line (codes "Open") ++ line (known_cost c known) ++ spent_lines bound splits ++ root_text root ++ known_timetable c known

-- what is reported of a feasible plan: its costs, or a chart
abbrev pub report_text : Report → CaseRecord → List ℕ → List ℕ
report_text Cost c plan = cost_text c plan
report_text (Platforms window) c plan = platform_text c plan window.from window.to
report_text (Paths window) c plan = path_text c plan window.from window.to

-- the number and the word of each kind of a proof's refusal
abbrev pub kind_text : ProofKind → List ℕ
kind_text kinds.Shape = codes "1 Shape"
kind_text kinds.Number = codes "2 Number"
kind_text kinds.Place = codes "3 Place"
kind_text kinds.Part = codes "4 Part"
kind_text kinds.Pair = codes "5 Pair"
kind_text kinds.Pattern = codes "6 Pattern"
kind_text kinds.End = codes "7 End"
kind_text kinds.Trail = codes "8 Trail"
kind_text kinds.Cut = codes "9 Cut"
kind_text kinds.Long = codes "10 Long"
kind_text kinds.Sum = codes "11 Sum"

-- the record of a proof file that is refused, and why
unfoldable pub proof_refused_text : ProofRefused → List ℕ
proof_refused_text r = line (codes "Proof refused " ++ kind_text r.kind ++ codes " at " ++ decimal r.at)

-- the bound of a proof that is accepted
unfoldable pub accepted_text : Bound → List ℕ
accepted_text (AtLeast n) = line (codes "accepted bound " ++ signed_decimal n)
accepted_text Nothing = line (codes "accepted no plan")

-- the plan costs just the bound
abbrev pub is_shown : Bound → ℕ → Bool
is_shown (AtLeast n) cost = int_eq n (pos cost)
is_shown Nothing cost = false

abbrev pub shown_line : Bool → List ℕ
shown_line shown = if shown then line (codes "shown optimal") else line (codes "not shown optimal")

-- the bound of a proof, and what a plan costs beside it
unfoldable pub checked_text : Bound → ℕ → List ℕ
checked_text bound cost = accepted_text bound ++ line (codes "cost " ++ decimal cost) ++ shown_line (is_shown bound cost)

-- the text of the station that the number makes, on one line
unfoldable pub made_text : ℕ → ℕ → List ℕ
made_text number trains = line (compact_text (json_of (made_station number trains)))
