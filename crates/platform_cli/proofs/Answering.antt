-- From what was read to what a command gives.
use Rattle.std.proofs.Common.{◌≡◌, Bool, List, ℕ, IfOk, IfSome, None, Some, Result, Ok, Err, inl, inr, ◌∙◌, ap, subst}
use Rattle.std.specs.Prelude.{IsSome}
use Rattle.std.specs.declared.option.Option.{Option}
use Rattle.std.specs.Option.{option_map, option_and_then}
use Rattle.shelf.specs.Outside.{Same}
use Rattle.command_words.specs.Command.{CommandView, SolveView, solve, check, cost, bound_all, patterns, platforms, paths, make, trial}
use Rattle.station_reader.specs.declared.refusal.RefusedKind.{RefusedKind}
use Rattle.station.specs.Allowed.{StationRecord}
use Rattle.station_reader.specs.Reading.{Reading, taken, refused}
use Rattle.pair_prices.specs.Case.{CaseRecord, rule_case}
use Rattle.plan_cost.specs.PlanReading.{PlanReading, plan_reading, taken as plan_taken, refused as plan_refused}
use Rattle.pair_prices.specs.Plan.{IsFeasible}
use Rattle.plan_cost.specs.declared.refusal.PlanRefused.{PlanRefused}
use Rattle.plan_cost.specs.declared.verdict.Clash.{Clash}
use Rattle.plan_cost.specs.Verdict.{first_clash}
use Rattle.reports.specs.Text.{patterns_text, window_text, conflict_text, plan_refused_text}
use Rattle.branching.specs.declared.found.Root.{Root}
use Rattle.branching.specs.RootLine.{IsRoot}
use Rattle.platform_cli.specs.declared.asked.Window.{Window}
use Rattle.platform_cli.specs.Answers.{IsProofTaken}
use Rattle.platform_cli.specs.Asked.{AskedView, asked_of, bad_window, instance_of, plan_of, requested, unless_bad, Reads}
use Rattle.platform_cli.specs.Given.{Outcome, text_outcome}
use Rattle.platform_cli.specs.declared.output.Output.{Output}
use Rattle.platform_cli.specs.declared.output.Stop.{Stop}
use Rattle.platform_cli.specs.Instance.{Held, IsInstance, IsPlan}
use Rattle.platform_cli.specs.Judge.{IsJudged, IsJudgedFile}
use Rattle.platform_cli.specs.Outcome.{IsOutcome, window, unread, optimal, no_plan, stopped, bounded, listed, refused_plan, conflict, reported}
use Rattle.platform_cli.specs.Report.{bound_text, refused_text, report_text}
use Rattle.platform_cli.specs.Solve.{IsSolved}
use Rattle.platform_cli.specs.View.{outcome_of}

pub unread_answer : (tells : Bool) (held : Held) (command : Option CommandView) (instance : List ℕ) (read : Reading) (kind : RefusedKind) (place : List ℕ) (outcome : Outcome) → instance_of command ≡ Some instance
    → IsInstance tells held instance read → read ≡ refused kind place → outcome ≡ text_outcome 3 (refused_text kind place) → IsOutcome tells held command outcome
unread_answer tells held command instance read kind place outcome asked there is made = (
  unread,
  record {
    instance = instance;
    asked = asked;
    kind = kind;
    place = place;
    read = subst (λ (r : Reading). IsInstance tells held instance r) is there;
    is = made;
  },
)

pub solved_answer : (tells : Bool) (held : Held) (words : SolveView) (read : Reading) (station : StationRecord) (outcome : Outcome) → IsInstance tells held words.instance read → read ≡ taken station
    → IsSolved (rule_case station) words outcome → IsOutcome tells held (Some (solve words)) outcome
solved_answer tells held words read station outcome there is (inl found) = (
  optimal,
  record {
    words = words;
    asked = λ _. Some (solve words);
    station = station;
    read = subst (λ (r : Reading). IsInstance tells held words.instance r) is there;
    found = found;
  },
)
solved_answer tells held words read station outcome there is (inr (inl found)) = (
  no_plan,
  record {
    words = words;
    asked = λ _. Some (solve words);
    station = station;
    read = subst (λ (r : Reading). IsInstance tells held words.instance r) is there;
    found = found;
  },
)
solved_answer tells held words read station outcome there is (inr (inr found)) = (
  stopped,
  record {
    words = words;
    asked = λ _. Some (solve words);
    station = station;
    read = subst (λ (r : Reading). IsInstance tells held words.instance r) is there;
    found = found;
  },
)

pub listed_answer : (tells : Bool) (held : Held) (instance : List ℕ) (read : Reading) (station : StationRecord) (outcome : Outcome) → IsInstance tells held instance read → read ≡ taken station
    → outcome ≡ text_outcome 0 (patterns_text (rule_case station)) → IsOutcome tells held (Some (patterns instance)) outcome
listed_answer tells held instance read station outcome there is made = (
  listed,
  record {
    instance = instance;
    asked = λ _. Some (patterns instance);
    station = station;
    read = subst (λ (r : Reading). IsInstance tells held instance r) is there;
    is = made;
  },
)

pub bounded_answer : (tells : Bool) (held : Held) (instance : List ℕ) (read : Reading) (station : StationRecord) (outcome : Outcome) → IsInstance tells held instance read → read ≡ taken station
    → (root : Root) × IsRoot (rule_case station) root × (outcome ≡ text_outcome 0 (bound_text (rule_case station) root)) → IsOutcome tells held (Some (bound_all instance)) outcome
bounded_answer tells held instance read station outcome there is found = (
  bounded,
  record {
    instance = instance;
    asked = λ _. Some (bound_all instance);
    station = station;
    read = subst (λ (r : Reading). IsInstance tells held instance r) is there;
    root = found.0;
    line = found.1;
    is = found.2;
  },
)

-- a report of minutes that charts have
pub asked_when : (command : Option CommandView) (asked : AskedView) → requested command ≡ Some asked → bad_window asked.report ≡ None → asked_of command ≡ Some asked
asked_when command asked words drawn =
    ap (λ (o : Option AskedView). option_and_then (λ a. unless_bad (bad_window a.report) a) o) words ∙ ap (λ (o : Option Window). unless_bad o asked) drawn

-- a command that asks for a report reads the instance that it names
pub asked_instance : (command : Option CommandView) (asked : AskedView) → asked_of command ≡ Some asked → instance_of command ≡ Some asked.instance
asked_instance None asked words = absurd (cc words)
asked_instance (Some (solve search)) asked words = absurd (cc words)
asked_instance (Some (check files)) asked words = absurd (cc words)
asked_instance (Some (cost instance plan)) asked words = ap (λ (o : Option AskedView). option_map (λ a. a.instance) o) words
asked_instance (Some (bound_all instance)) asked words = absurd (cc words)
asked_instance (Some (patterns instance)) asked words = absurd (cc words)
asked_instance (Some (platforms chart)) asked words = ap (λ (o : Option AskedView). option_map (λ a. a.instance) o) words
asked_instance (Some (paths chart)) asked words = ap (λ (o : Option AskedView). option_map (λ a. a.instance) o) words
asked_instance (Some (make numbers)) asked words = absurd (cc words)
asked_instance (Some (trial numbers)) asked words = absurd (cc words)

pub asked_plan : (command : Option CommandView) (asked : AskedView) → asked_of command ≡ Some asked → plan_of command ≡ Some asked.plan
asked_plan None asked words = absurd (cc words)
asked_plan (Some (solve search)) asked words = absurd (cc words)
asked_plan (Some (check files)) asked words = absurd (cc words)
asked_plan (Some (cost instance plan)) asked words = ap (λ (o : Option AskedView). option_map (λ a. a.plan) o) words
asked_plan (Some (bound_all instance)) asked words = absurd (cc words)
asked_plan (Some (patterns instance)) asked words = absurd (cc words)
asked_plan (Some (platforms chart)) asked words = ap (λ (o : Option AskedView). option_map (λ a. a.plan) o) words
asked_plan (Some (paths chart)) asked words = ap (λ (o : Option AskedView). option_map (λ a. a.plan) o) words
asked_plan (Some (make numbers)) asked words = absurd (cc words)
asked_plan (Some (trial numbers)) asked words = absurd (cc words)

pub reads_plan : (tells : Bool) (held : Held) (command : Option CommandView) (asked : AskedView) (read : Reading) (station : StationRecord) → requested command ≡ Some asked → bad_window asked.report ≡ None
    → IsInstance tells held asked.instance read → read ≡ taken station → Reads tells held command asked.plan
reads_plan tells held command asked read station words drawn there is =
    let own : asked_of command ≡ Some asked = asked_when command asked words drawn in
    inr (
      inr (asked_plan command asked own),
      record {
        instance = asked.instance;
        asked = asked_instance command asked own;
        station = station;
        read = subst (λ (r : Reading). IsInstance tells held asked.instance r) is there;
      },
    )

pub window_answer : (tells : Bool) (held : Held) (command : Option CommandView) (asked : AskedView) (bad : Window) (outcome : Outcome) → requested command ≡ Some asked → bad_window asked.report ≡ Some bad
    → outcome ≡ text_outcome 12 (window_text bad.from bad.to) → IsOutcome tells held command outcome
window_answer tells held command asked bad outcome words is made = (
  window,
  record {
    window = bad;
    asked = ap (λ (o : Option AskedView). option_and_then (λ a. bad_window a.report) o) words ∙ is;
    is = made;
  },
)

-- a report reads no proof
no_proof : (tells : Bool) (held : Held) (command : Option CommandView) (asked : AskedView) (c : CaseRecord) → requested command ≡ Some asked → IsProofTaken tells held command c
no_proof tells held None asked c words = tt
no_proof tells held (Some (solve search)) asked c words = tt
no_proof tells held (Some (check files)) asked c words = absurd (cc words)
no_proof tells held (Some (cost instance plan)) asked c words = tt
no_proof tells held (Some (bound_all instance)) asked c words = tt
no_proof tells held (Some (patterns instance)) asked c words = tt
no_proof tells held (Some (platforms chart)) asked c words = tt
no_proof tells held (Some (paths chart)) asked c words = tt
no_proof tells held (Some (make numbers)) asked c words = tt
no_proof tells held (Some (trial numbers)) asked c words = tt

-- a plan's text that was read, of a command that reads a plan
module _ (tells : Bool) (held : Held) (command : Option CommandView) (instance name : List ℕ) (station : StationRecord) (asked : instance_of command ≡ Some instance) (named : plan_of command ≡ Some name)
    (there : IsInstance tells held instance (taken station)) (before : IsProofTaken tells held command (rule_case station)) where
  pub plan_refused_so : (refusal : PlanRefused) (outcome : Outcome) → IsPlan tells held name (rule_case station) (plan_refused refusal) → outcome ≡ text_outcome 4 (plan_refused_text refusal)
      → IsOutcome tells held command outcome
  plan_refused_so refusal outcome plan_there made = (
    refused_plan,
    record {
      instance = instance;
      asked = asked;
      name = name;
      named = named;
      station = station;
      read = there;
      proof = before;
      refusal = refusal;
      plan_read = plan_there;
      is = made;
    },
  )

  pub conflict_so : (plan : List ℕ) (outcome : Outcome) → IsPlan tells held name (rule_case station) (plan_taken plan)
      → ((clash : Clash) × (first_clash (rule_case station) plan ≡ Some clash) × (IsFeasible (rule_case station) plan → ⊥) × (outcome ≡ text_outcome 9 (conflict_text station clash)))
      → IsOutcome tells held command outcome
  conflict_so plan outcome plan_there (clash, first, infeasible, made) = (
    conflict,
    record {
      instance = instance;
      asked = asked;
      name = name;
      named = named;
      station = station;
      read = there;
      proof = before;
      plan = plan;
      plan_read = plan_there;
      clash = clash;
      first = first;
      infeasible = infeasible;
      is = made;
    },
  )

pub judged_answer : (tells : Bool) (held : Held) (command : Option CommandView) (asked : AskedView) (read : Reading) (station : StationRecord) (outcome : Outcome) → requested command ≡ Some asked → bad_window asked.report ≡ None
    → IsInstance tells held asked.instance read → read ≡ taken station → IsJudgedFile tells held asked.plan (report_text asked.report (rule_case station)) (rule_case station) outcome → IsOutcome tells held command outcome
judged_answer tells held command asked read station outcome words drawn there is (plan_refused refusal, plan_there, made) =
    let own : asked_of command ≡ Some asked = asked_when command asked words drawn in
    plan_refused_so tells held command asked.instance asked.plan station (asked_instance command asked own) (asked_plan command asked own)
    (subst (λ (r : Reading). IsInstance tells held asked.instance r) is there) (no_proof tells held command asked (rule_case station) words) refusal outcome plan_there made
judged_answer tells held command asked read station outcome words drawn there is (plan_taken plan, plan_there, inl (feasible, made)) = (
  reported,
  record {
    asked = asked;
    words = asked_when command asked words drawn;
    station = station;
    read = subst (λ (r : Reading). IsInstance tells held asked.instance r) is there;
    plan = plan;
    plan_read = plan_there;
    feasible = feasible;
    is = made;
  },
)
judged_answer tells held command asked read station outcome words drawn there is (plan_taken plan, plan_there, inr other) =
    let own : asked_of command ≡ Some asked = asked_when command asked words drawn in
    conflict_so tells held command asked.instance asked.plan station (asked_instance command asked own) (asked_plan command asked own)
    (subst (λ (r : Reading). IsInstance tells held asked.instance r) is there) (no_proof tells held command asked (rule_case station) words) plan outcome plan_there other

-- the plan is what it was when the instance was read
pub plan_before : (tells : Bool) (held between : Held) (name : List ℕ) (c : CaseRecord) (is : PlanReading) → between name ≡ held name → IsPlan tells between name c is → IsPlan tells held name c is
plan_before tells held between name c is same there = record {
  whole = subst (λ (known : Option (List ℕ)). IfSome known (λ whole. plan_reading c whole ≡ is)) same there.whole;
  told = λ told. subst (λ (known : Option (List ℕ)). IsSome known) same (there.told told);
  bytes = there.bytes;
  read = there.read;
}

pub judged_result : (tells : Bool) (held between : Held) (command : Option CommandView) (asked : AskedView) (read : Reading) (station : StationRecord) (result : Result Output Stop) → Same held between
    → requested command ≡ Some asked → bad_window asked.report ≡ None → IsInstance tells held asked.instance read → read ≡ taken station
    → IfOk result (λ output. IsJudgedFile tells between asked.plan (report_text asked.report (rule_case station)) (rule_case station) (outcome_of output)) → IfOk result (λ output. IsOutcome tells held command (outcome_of output))
judged_result tells held between command asked read station (Err e) same words drawn there is judged = tt
judged_result tells held between command asked read station (Ok output) same words drawn there is (given, plan_there, judged) =
    judged_answer tells held command asked read station (outcome_of output) words drawn there is (given, plan_before tells held between asked.plan (rule_case station) given (same asked.plan) plan_there, judged)

-- a plan that was taken and judged
pub file_judged : (tells : Bool) (held : Held) (name : List ℕ) (report : CaseRecord → List ℕ → List ℕ) (rules c : CaseRecord) (given : PlanReading) (plan : List ℕ) (outcome : Outcome) → c ≡ rules → IsPlan tells held name c given
    → given ≡ plan_taken plan → IsJudged (report c) c plan outcome → IsJudgedFile tells held name (report rules) rules outcome
file_judged tells held name report rules c given plan outcome case there is judged = (
  plan_taken plan,
  subst (λ (k : CaseRecord). IsPlan tells held name k (plan_taken plan)) case (subst (λ (r : PlanReading). IsPlan tells held name c r) is there),
  subst (λ (k : CaseRecord). IsJudged (report k) k plan outcome) case judged,
)
