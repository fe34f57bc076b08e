-- What a run gives, a record for each answer: what the words ask for, what the files are read as, and the outcome.
use Rattle.std.specs.Prelude.{◌≡◌, ◌⊎◌, ℕ, Bool, List, Option, None, Some, Ok, Err, IfSome}
use Rattle.command_words.specs.Command.{CommandView, SolveView, CheckView, GeneratedView, solve, check, bound_all, patterns, make, trial}
use Rattle.command_words.specs.Usage.{usage_text}
use Rattle.station_reader.specs.declared.refusal.RefusedKind.{RefusedKind}
use Rattle.station.specs.Allowed.{StationRecord}
use Rattle.station_reader.specs.Reading.{taken, refused}
use Rattle.pair_prices.specs.Case.{CaseRecord, rule_case}
use Rattle.pair_prices.specs.Plan.{IsFeasible, cost}
use Rattle.plan_cost.specs.declared.refusal.PlanRefused.{PlanRefused}
use Rattle.plan_cost.specs.declared.verdict.Clash.{Clash}
use Rattle.plan_cost.specs.PlanReading.{taken as plan_taken, refused as plan_refused}
use Rattle.plan_cost.specs.Verdict.{first_clash}
use Rattle.leaf_bounds.specs.declared.tree.Bound.{Bound}
use Rattle.leaf_bounds.specs.Laws.{KeepsTo}
use Rattle.proof_file.specs.Accepted.{IsAccepted}
use Rattle.proof_rules.specs.declared.refused.ProofRefused.{ProofRefused}
use Rattle.reports.specs.Text.{patterns_text, conflict_text, plan_refused_text, window_text}
use Rattle.branching.specs.declared.found.Root.{Root}
use Rattle.branching.specs.RootLine.{IsRoot}
use Rattle.platform_cli.specs.declared.asked.Window.{Window}
use Rattle.platform_cli.specs.Asked.{AskedView, asked_of, bad_window_of, instance_of, plan_of}
use Rattle.platform_cli.specs.Given.{Outcome, text_outcome}
use Rattle.platform_cli.specs.Instance.{Held, IsInstance, IsPlan, IsProof}
use Rattle.platform_cli.specs.Report.{refused_text, report_text, made_text, bound_text, accepted_text, checked_text, proof_refused_text}
use Rattle.platform_cli.specs.Solve.{IsOptimalFor, IsNoPlanFor, IsOpenFor}
use Rattle.platform_cli.specs.Trial.{IsOptimalTrial, IsNoPlanTrial, IsOpenTrial, trial_case}

-- The words are no command. The usage text is given.
pub record IsUsage (command : Option CommandView) (outcome : Outcome) : Type 0 where
  pub asked : command ≡ None
  pub is : outcome ≡ text_outcome 2 usage_text

-- The words ask for a chart of minutes that no chart has. The line names them.
pub record IsWindow (command : Option CommandView) (outcome : Outcome) : Type 0 where
  pub window : Window
  pub asked : bad_window_of command ≡ Some window
  pub is : outcome ≡ text_outcome 12 (window_text window.from window.to)

-- The instance is no station. The line names the first refusal with its place.
pub record IsUnread (tells : Bool) (held : Held) (command : Option CommandView) (outcome : Outcome) : Type 0 where
  pub instance : List ℕ
  pub asked : instance_of command ≡ Some instance
  pub kind : RefusedKind
  pub place : List ℕ
  pub read : IsInstance tells held instance (refused kind place)
  pub is : outcome ≡ text_outcome 3 (refused_text kind place)

-- Of `solve`: the instance is a station, and a plan of least cost is given.
pub record IsOptimal (tells : Bool) (held : Held) (command : Option CommandView) (outcome : Outcome) : Type 0 where
  pub words : SolveView
  pub asked : command ≡ Some (solve words)
  pub station : StationRecord
  pub read : IsInstance tells held words.instance (taken station)
  pub found : IsOptimalFor (rule_case station) words outcome

-- Of `solve`: the instance is a station, no plan of it is feasible, and that is said.
pub record IsNoPlan (tells : Bool) (held : Held) (command : Option CommandView) (outcome : Outcome) : Type 0 where
  pub words : SolveView
  pub asked : command ≡ Some (solve words)
  pub station : StationRecord
  pub read : IsInstance tells held words.instance (taken station)
  pub found : IsNoPlanFor (rule_case station) words outcome

-- Of `solve`: the instance is a station, and the splits are spent. What is known is given.
pub record IsOpen (tells : Bool) (held : Held) (command : Option CommandView) (outcome : Outcome) : Type 0 where
  pub words : SolveView
  pub asked : command ≡ Some (solve words)
  pub station : StationRecord
  pub read : IsInstance tells held words.instance (taken station)
  pub found : IsOpenFor (rule_case station) words outcome

-- Of `patterns`: the instance is a station, and its patterns are listed.
pub record IsListed (tells : Bool) (held : Held) (command : Option CommandView) (outcome : Outcome) : Type 0 where
  pub instance : List ℕ
  pub asked : command ≡ Some (patterns instance)
  pub station : StationRecord
  pub read : IsInstance tells held instance (taken station)
  pub is : outcome ≡ text_outcome 0 (patterns_text (rule_case station))

-- Of `bound`: the instance is a station, and what is known of all plans is given: a root line, and what its fraction says.
pub record IsBounded (tells : Bool) (held : Held) (command : Option CommandView) (outcome : Outcome) : Type 0 where
  pub instance : List ℕ
  pub asked : command ≡ Some (bound_all instance)
  pub station : StationRecord
  pub read : IsInstance tells held instance (taken station)
  pub root : Root
  pub line : IsRoot (rule_case station) root
  pub is : outcome ≡ text_outcome 0 (bound_text (rule_case station) root)

-- Of `check`: the instance is a station, and the proof isn't accepted. The line names the first refusal with its record.
pub record IsProofRefused (tells : Bool) (held : Held) (command : Option CommandView) (outcome : Outcome) : Type 0 where
  pub words : CheckView
  pub asked : command ≡ Some (check words)
  pub station : StationRecord
  pub read : IsInstance tells held words.instance (taken station)
  pub refusal : ProofRefused
  pub proof_read : IsProof tells held words.proof (rule_case station) (Err refusal)
  pub is : outcome ≡ text_outcome 5 (proof_refused_text refusal)

-- what is given of an accepted proof: its bound, and where a plan is named, the plan's cost beside it. That plan is feasible.
abbrev pub IsBoundTold : Bool → Held → Option (List ℕ) → CaseRecord → Bound → Outcome → Type 0
IsBoundTold tells held None c bound outcome = outcome ≡ text_outcome 0 (accepted_text bound)
IsBoundTold tells held (Some name) c bound outcome =
    (plan : List ℕ) × IsPlan tells held name c (plan_taken plan) × IsFeasible c plan × (outcome ≡ text_outcome 0 (checked_text bound (cost c plan)))

-- Of `check`: the instance is a station, the proof's bytes are the text of a tree that stands, and of its bound, whoever wrote
-- them, and every feasible plan keeps to that bound. It is given.
pub record IsChecked (tells : Bool) (held : Held) (command : Option CommandView) (outcome : Outcome) : Type 0 where
  pub words : CheckView
  pub asked : command ≡ Some (check words)
  pub station : StationRecord
  pub read : IsInstance tells held words.instance (taken station)
  pub bound : Bound
  pub proof_read : IsProof tells held words.proof (rule_case station) (Ok bound)
  pub accepted : IfSome (held words.proof) (λ bytes. IsAccepted (rule_case station) bound bytes)
  pub bounds : (plan : List ℕ) → IsFeasible (rule_case station) plan → KeepsTo (rule_case station) plan bound
  pub told : IsBoundTold tells held words.plan (rule_case station) bound outcome

-- Of `make`: the text of the station that the number makes is given.
pub record IsMade (command : Option CommandView) (outcome : Outcome) : Type 0 where
  pub words : GeneratedView
  pub asked : command ≡ Some (make words)
  pub is : outcome ≡ text_outcome 0 (made_text words.number words.trains)

-- Of `trial`: the station that the number makes has a plan of least cost, and that cost is given.
pub record IsTriedOptimal (command : Option CommandView) (outcome : Outcome) : Type 0 where
  pub words : GeneratedView
  pub asked : command ≡ Some (trial words)
  pub found : IsOptimalTrial (trial_case words) words.trains outcome

-- Of `trial`: no plan of the station that the number makes is feasible, and that is said.
pub record IsTriedNoPlan (command : Option CommandView) (outcome : Outcome) : Type 0 where
  pub words : GeneratedView
  pub asked : command ≡ Some (trial words)
  pub found : IsNoPlanTrial (trial_case words) words.trains outcome

-- Of `trial`: the splits are spent. What is known of the station that the number makes is given.
pub record IsTriedOpen (command : Option CommandView) (outcome : Outcome) : Type 0 where
  pub words : GeneratedView
  pub asked : command ≡ Some (trial words)
  pub found : IsOpenTrial (trial_case words) words.trains outcome

-- The proof that a command reads before a plan is accepted.
abbrev pub IsProofTaken : Bool → Held → Option CommandView → CaseRecord → Type 0
IsProofTaken tells held (Some (check words)) c = (bound : Bound) × IsProof tells held words.proof c (Ok bound)
IsProofTaken tells held command c = Unit {0}

-- The instance is a station, and the plan's text is no plan of it. The line names the first refusal with its record.
pub record IsPlanRefused (tells : Bool) (held : Held) (command : Option CommandView) (outcome : Outcome) : Type 0 where
  pub instance : List ℕ
  pub asked : instance_of command ≡ Some instance
  pub name : List ℕ
  pub named : plan_of command ≡ Some name
  pub station : StationRecord
  pub read : IsInstance tells held instance (taken station)
  pub proof : IsProofTaken tells held command (rule_case station)
  pub refusal : PlanRefused
  pub plan_read : IsPlan tells held name (rule_case station) (plan_refused refusal)
  pub is : outcome ≡ text_outcome 4 (plan_refused_text refusal)

-- The plan's text is a plan of the instance that isn't feasible. The line names its first two trains whose patterns are
-- forbidden together.
pub record IsConflict (tells : Bool) (held : Held) (command : Option CommandView) (outcome : Outcome) : Type 0 where
  pub instance : List ℕ
  pub asked : instance_of command ≡ Some instance
  pub name : List ℕ
  pub named : plan_of command ≡ Some name
  pub station : StationRecord
  pub read : IsInstance tells held instance (taken station)
  pub proof : IsProofTaken tells held command (rule_case station)
  pub plan : List ℕ
  pub plan_read : IsPlan tells held name (rule_case station) (plan_taken plan)
  pub clash : Clash
  pub first : first_clash (rule_case station) plan ≡ Some clash
  pub infeasible : IsFeasible (rule_case station) plan → ⊥
  pub is : outcome ≡ text_outcome 9 (conflict_text station clash)

-- The plan's text is a plan of the instance, it is feasible, and its costs or its chart are given.
pub record IsReported (tells : Bool) (held : Held) (command : Option CommandView) (outcome : Outcome) : Type 0 where
  pub asked : AskedView
  pub words : asked_of command ≡ Some asked
  pub station : StationRecord
  pub read : IsInstance tells held asked.instance (taken station)
  pub plan : List ℕ
  pub plan_read : IsPlan tells held asked.plan (rule_case station) (plan_taken plan)
  pub feasible : IsFeasible (rule_case station) plan
  pub is : outcome ≡ text_outcome 0 (report_text asked.report (rule_case station) plan)
