-- Each status has its answers, and each answer its command.
use Rattle.std.proofs.Common.{◌≡◌, ◌<◌, ◌⊎◌, inl, inr, ℕ, Bool, List, None, Some, ap, arith}
use Rattle.std.specs.declared.option.Option.{Option}
use Rattle.std.specs.Option.{option_map, option_and_then}
use Rattle.command_words.specs.Command.{CommandView, SolveView, CheckView, GeneratedView, solve, check, cost, bound_all, patterns, platforms, paths, make, trial}
use Rattle.pair_prices.specs.Case.{CaseRecord, rule_case}
use Rattle.leaf_bounds.specs.declared.tree.Bound.{Bound}
use Rattle.platform_cli.specs.declared.asked.Window.{Window}
use Rattle.platform_cli.specs.Answers.{IsUsage, IsWindow, IsUnread, IsOptimal, IsBounded, IsListed, IsMade, IsTriedOptimal, IsNoPlan, IsTriedNoPlan, IsOpen, IsTriedOpen, IsProofRefused, IsBoundTold, IsChecked, IsPlanRefused, IsConflict, IsReported}
use Rattle.platform_cli.specs.Asked.{AskedView, Reads, asked_of, bad_window, bad_window_of, instance_of, requested, unless_bad}
use Rattle.platform_cli.specs.Given.{Outcome}
use Rattle.platform_cli.specs.Instance.{Held}
use Rattle.platform_cli.specs.Outcome.{Answer, IsAnswer, IsOutcome, usage, window, unread, optimal, no_plan, stopped, bounded, listed, made, tried_optimal, tried_none, tried_open, refused_proof, checked, refused_plan, conflict, reported}
use Rattle.platform_cli.proofs.Answering.{asked_instance}

-- It is said that no plan is feasible: of `solve`, or of `trial`.
abbrev pub SaysNoPlan : Bool → Held → Option CommandView → Outcome → Type 0
SaysNoPlan tells held command outcome = IsNoPlan tells held command outcome ⊎ IsTriedNoPlan command outcome

-- It is said that the splits are spent: of `solve`, or of `trial`.
abbrev pub SaysOpen : Bool → Held → Option CommandView → Outcome → Type 0
SaysOpen tells held command outcome = IsOpen tells held command outcome ⊎ IsTriedOpen command outcome

abbrev pub answer_code : Answer → ℕ
answer_code usage = 2
answer_code window = 12
answer_code unread = 3
answer_code optimal = 0
answer_code no_plan = 10
answer_code stopped = 11
answer_code bounded = 0
answer_code listed = 0
answer_code made = 0
answer_code tried_optimal = 0
answer_code tried_none = 10
answer_code tried_open = 11
answer_code refused_proof = 5
answer_code checked = 0
answer_code refused_plan = 4
answer_code conflict = 9
answer_code reported = 0

told_code : (tells : Bool) (held : Held) (plan : Option (List ℕ)) (c : CaseRecord) (bound : Bound) (outcome : Outcome) → IsBoundTold tells held plan c bound outcome → outcome.code ≡ 0
told_code tells held None c bound outcome told = ap (λ (o : Outcome). o.code) told
told_code tells held (Some name) c bound outcome (plan, there, feasible, is) = ap (λ (o : Outcome). o.code) is

pub code_of : (tells : Bool) (held : Held) (command : Option CommandView) (outcome : Outcome) (answer : Answer) → IsAnswer answer tells held command outcome → outcome.code ≡ answer_code answer
code_of tells held command outcome usage is = ap (λ (o : Outcome). o.code) is.is
code_of tells held command outcome optimal is = ap (λ (o : Outcome). o.code) is.found.is
code_of tells held command outcome no_plan is = ap (λ (o : Outcome). o.code) is.found.is
code_of tells held command outcome stopped is = ap (λ (o : Outcome). o.code) is.found.is
code_of tells held command outcome tried_optimal is = ap (λ (o : Outcome). o.code) is.found.is
code_of tells held command outcome tried_none is = ap (λ (o : Outcome). o.code) is.found.is
code_of tells held command outcome tried_open is = ap (λ (o : Outcome). o.code) is.found.is
code_of tells held command outcome checked is = told_code tells held is.words.plan (rule_case is.station) is.bound outcome is.told
code_of tells held command outcome answer is = ap (λ (o : Outcome). o.code) is.is

pub usage_answer : (tells : Bool) (held : Held) (command : Option CommandView) (outcome : Outcome) → IsOutcome tells held command outcome → outcome.code ≡ 2 → IsUsage command outcome
usage_answer tells held command outcome (usage, is) code = is
usage_answer tells held command outcome (answer, is) code = absurd (omega (arith, code, code_of tells held command outcome answer is))

pub window_status : (tells : Bool) (held : Held) (command : Option CommandView) (outcome : Outcome) → IsOutcome tells held command outcome → outcome.code ≡ 12 → IsWindow command outcome
window_status tells held command outcome (window, is) code = is
window_status tells held command outcome (answer, is) code = absurd (omega (arith, code, code_of tells held command outcome answer is))

pub refused_answer : (tells : Bool) (held : Held) (command : Option CommandView) (outcome : Outcome) → IsOutcome tells held command outcome → outcome.code ≡ 3 → IsUnread tells held command outcome
refused_answer tells held command outcome (unread, is) code = is
refused_answer tells held command outcome (answer, is) code = absurd (omega (arith, code, code_of tells held command outcome answer is))

pub no_plan_answer : (tells : Bool) (held : Held) (command : Option CommandView) (outcome : Outcome) → IsOutcome tells held command outcome → outcome.code ≡ 10 → SaysNoPlan tells held command outcome
no_plan_answer tells held command outcome (no_plan, is) code = inl is
no_plan_answer tells held command outcome (tried_none, is) code = inr is
no_plan_answer tells held command outcome (answer, is) code = absurd (omega (arith, code, code_of tells held command outcome answer is))

pub stopped_answer : (tells : Bool) (held : Held) (command : Option CommandView) (outcome : Outcome) → IsOutcome tells held command outcome → outcome.code ≡ 11 → SaysOpen tells held command outcome
stopped_answer tells held command outcome (stopped, is) code = inl is
stopped_answer tells held command outcome (tried_open, is) code = inr is
stopped_answer tells held command outcome (answer, is) code = absurd (omega (arith, code, code_of tells held command outcome answer is))

pub proof_refused_answer : (tells : Bool) (held : Held) (command : Option CommandView) (outcome : Outcome) → IsOutcome tells held command outcome → outcome.code ≡ 5 → IsProofRefused tells held command outcome
proof_refused_answer tells held command outcome (refused_proof, is) code = is
proof_refused_answer tells held command outcome (answer, is) code = absurd (omega (arith, code, code_of tells held command outcome answer is))

pub plan_refused_answer : (tells : Bool) (held : Held) (command : Option CommandView) (outcome : Outcome) → IsOutcome tells held command outcome → outcome.code ≡ 4 → IsPlanRefused tells held command outcome
plan_refused_answer tells held command outcome (refused_plan, is) code = is
plan_refused_answer tells held command outcome (answer, is) code = absurd (omega (arith, code, code_of tells held command outcome answer is))

pub conflict_answer : (tells : Bool) (held : Held) (command : Option CommandView) (outcome : Outcome) → IsOutcome tells held command outcome → outcome.code ≡ 9 → IsConflict tells held command outcome
conflict_answer tells held command outcome (conflict, is) code = is
conflict_answer tells held command outcome (answer, is) code = absurd (omega (arith, code, code_of tells held command outcome answer is))

-- the answers of status 0
data Done (tells : Bool) (held : Held) (command : Option CommandView) (outcome : Outcome) : Type 0 where
  of_solve : IsOptimal tells held command outcome → Done tells held command outcome
  of_check : IsChecked tells held command outcome → Done tells held command outcome
  of_bound : IsBounded tells held command outcome → Done tells held command outcome
  of_patterns : IsListed tells held command outcome → Done tells held command outcome
  of_make : IsMade command outcome → Done tells held command outcome
  of_trial : IsTriedOptimal command outcome → Done tells held command outcome
  of_report : IsReported tells held command outcome → Done tells held command outcome

done_answer : (tells : Bool) (held : Held) (command : Option CommandView) (outcome : Outcome) → IsOutcome tells held command outcome → outcome.code ≡ 0 → Done tells held command outcome
done_answer tells held command outcome (optimal, is) code = of_solve is
done_answer tells held command outcome (checked, is) code = of_check is
done_answer tells held command outcome (bounded, is) code = of_bound is
done_answer tells held command outcome (listed, is) code = of_patterns is
done_answer tells held command outcome (made, is) code = of_make is
done_answer tells held command outcome (tried_optimal, is) code = of_trial is
done_answer tells held command outcome (reported, is) code = of_report is
done_answer tells held command outcome (answer, is) code = absurd (omega (arith, code, code_of tells held command outcome answer is))

-- `solve`, `check`, `bound`, `patterns`, and the commands that ask for a report are different commands
pub asked_no_solve : (command : Option CommandView) (words : SolveView) (asked : AskedView) → command ≡ Some (solve words) → asked_of command ≡ Some asked → ⊥
asked_no_solve command words asked is report =
    let none : asked_of command ≡ None = ap asked_of is in cc (none, report)

pub asked_no_check : (command : Option CommandView) (words : CheckView) (asked : AskedView) → command ≡ Some (check words) → asked_of command ≡ Some asked → ⊥
asked_no_check command words asked is report =
    let none : asked_of command ≡ None = ap asked_of is in cc (none, report)

pub asked_no_bound : (command : Option CommandView) (instance : List ℕ) (asked : AskedView) → command ≡ Some (bound_all instance) → asked_of command ≡ Some asked → ⊥
asked_no_bound command instance asked is words =
    let none : asked_of command ≡ None = ap asked_of is in cc (none, words)

pub asked_no_patterns : (command : Option CommandView) (instance : List ℕ) (asked : AskedView) → command ≡ Some (patterns instance) → asked_of command ≡ Some asked → ⊥
asked_no_patterns command instance asked is words =
    let none : asked_of command ≡ None = ap asked_of is in cc (none, words)

pub asked_no_make : (command : Option CommandView) (words : GeneratedView) (asked : AskedView) → command ≡ Some (make words) → asked_of command ≡ Some asked → ⊥
asked_no_make command words asked is report =
    let none : asked_of command ≡ None = ap asked_of is in cc (none, report)

pub asked_no_trial : (command : Option CommandView) (words : GeneratedView) (asked : AskedView) → command ≡ Some (trial words) → asked_of command ≡ Some asked → ⊥
asked_no_trial command words asked is report =
    let none : asked_of command ≡ None = ap asked_of is in cc (none, report)

pub made_status : (tells : Bool) (held : Held) (command : Option CommandView) (words : GeneratedView) (outcome : Outcome) → command ≡ Some (make words)
    → IsOutcome tells held command outcome → outcome.code ≡ 0 → IsMade command outcome
made_status tells held command words outcome asked is code = by_answer (done_answer tells held command outcome is code)
  where
    by_answer : Done tells held command outcome → IsMade command outcome
    by_answer (of_solve other) = absurd (cc (asked, other.asked))
    by_answer (of_check other) = absurd (cc (asked, other.asked))
    by_answer (of_bound other) = absurd (cc (asked, other.asked))
    by_answer (of_patterns other) = absurd (cc (asked, other.asked))
    by_answer (of_make at) = at
    by_answer (of_trial other) = absurd (cc (asked, other.asked))
    by_answer (of_report other) = absurd (asked_no_make command words other.asked asked other.words)

pub tried_status : (tells : Bool) (held : Held) (command : Option CommandView) (words : GeneratedView) (outcome : Outcome) → command ≡ Some (trial words)
    → IsOutcome tells held command outcome → outcome.code ≡ 0 → IsTriedOptimal command outcome
tried_status tells held command words outcome asked is code = by_answer (done_answer tells held command outcome is code)
  where
    by_answer : Done tells held command outcome → IsTriedOptimal command outcome
    by_answer (of_solve other) = absurd (cc (asked, other.asked))
    by_answer (of_check other) = absurd (cc (asked, other.asked))
    by_answer (of_bound other) = absurd (cc (asked, other.asked))
    by_answer (of_patterns other) = absurd (cc (asked, other.asked))
    by_answer (of_make other) = absurd (cc (asked, other.asked))
    by_answer (of_trial at) = at
    by_answer (of_report other) = absurd (asked_no_trial command words other.asked asked other.words)

pub optimal_answer : (tells : Bool) (held : Held) (command : Option CommandView) (words : SolveView) (outcome : Outcome) → command ≡ Some (solve words)
    → IsOutcome tells held command outcome → outcome.code ≡ 0 → IsOptimal tells held command outcome
optimal_answer tells held command words outcome asked is code = by_answer (done_answer tells held command outcome is code)
  where
    by_answer : Done tells held command outcome → IsOptimal tells held command outcome
    by_answer (of_solve at) = at
    by_answer (of_check other) = absurd (cc (asked, other.asked))
    by_answer (of_bound other) = absurd (cc (asked, other.asked))
    by_answer (of_patterns other) = absurd (cc (asked, other.asked))
    by_answer (of_make other) = absurd (cc (asked, other.asked))
    by_answer (of_trial other) = absurd (cc (asked, other.asked))
    by_answer (of_report other) = absurd (asked_no_solve command words other.asked asked other.words)

pub checked_status : (tells : Bool) (held : Held) (command : Option CommandView) (words : CheckView) (outcome : Outcome) → command ≡ Some (check words)
    → IsOutcome tells held command outcome → outcome.code ≡ 0 → IsChecked tells held command outcome
checked_status tells held command words outcome asked is code = by_answer (done_answer tells held command outcome is code)
  where
    by_answer : Done tells held command outcome → IsChecked tells held command outcome
    by_answer (of_solve other) = absurd (cc (asked, other.asked))
    by_answer (of_check at) = at
    by_answer (of_bound other) = absurd (cc (asked, other.asked))
    by_answer (of_patterns other) = absurd (cc (asked, other.asked))
    by_answer (of_make other) = absurd (cc (asked, other.asked))
    by_answer (of_trial other) = absurd (cc (asked, other.asked))
    by_answer (of_report other) = absurd (asked_no_check command words other.asked asked other.words)

pub listed_status : (tells : Bool) (held : Held) (command : Option CommandView) (instance : List ℕ) (outcome : Outcome) → command ≡ Some (patterns instance)
    → IsOutcome tells held command outcome → outcome.code ≡ 0 → IsListed tells held command outcome
listed_status tells held command instance outcome asked is code = by_answer (done_answer tells held command outcome is code)
  where
    by_answer : Done tells held command outcome → IsListed tells held command outcome
    by_answer (of_solve other) = absurd (cc (asked, other.asked))
    by_answer (of_check other) = absurd (cc (asked, other.asked))
    by_answer (of_bound other) = absurd (cc (asked, other.asked))
    by_answer (of_patterns at) = at
    by_answer (of_make other) = absurd (cc (asked, other.asked))
    by_answer (of_trial other) = absurd (cc (asked, other.asked))
    by_answer (of_report other) = absurd (asked_no_patterns command instance other.asked asked other.words)

pub bounded_status : (tells : Bool) (held : Held) (command : Option CommandView) (instance : List ℕ) (outcome : Outcome) → command ≡ Some (bound_all instance)
    → IsOutcome tells held command outcome → outcome.code ≡ 0 → IsBounded tells held command outcome
bounded_status tells held command instance outcome asked is code = by_answer (done_answer tells held command outcome is code)
  where
    by_answer : Done tells held command outcome → IsBounded tells held command outcome
    by_answer (of_solve other) = absurd (cc (asked, other.asked))
    by_answer (of_check other) = absurd (cc (asked, other.asked))
    by_answer (of_bound at) = at
    by_answer (of_patterns other) = absurd (cc (asked, other.asked))
    by_answer (of_make other) = absurd (cc (asked, other.asked))
    by_answer (of_trial other) = absurd (cc (asked, other.asked))
    by_answer (of_report other) = absurd (asked_no_bound command instance other.asked asked other.words)

pub reported_answer : (tells : Bool) (held : Held) (command : Option CommandView) (asked : AskedView) (outcome : Outcome) → asked_of command ≡ Some asked
    → IsOutcome tells held command outcome → outcome.code ≡ 0 → IsReported tells held command outcome
reported_answer tells held command asked outcome report is code = by_answer (done_answer tells held command outcome is code)
  where
    by_answer : Done tells held command outcome → IsReported tells held command outcome
    by_answer (of_solve other) = absurd (asked_no_solve command other.words asked other.asked report)
    by_answer (of_check other) = absurd (asked_no_check command other.words asked other.asked report)
    by_answer (of_bound other) = absurd (asked_no_bound command other.instance asked other.asked report)
    by_answer (of_patterns other) = absurd (asked_no_patterns command other.instance asked other.asked report)
    by_answer (of_make other) = absurd (asked_no_make command other.words asked other.asked report)
    by_answer (of_trial other) = absurd (asked_no_trial command other.words asked other.asked report)
    by_answer (of_report at) = at

-- words that are no command, and a chart that can't be, read nothing
reads_none : (tells : Bool) (held : Held) (command : Option CommandView) (name : List ℕ) → instance_of command ≡ None → Reads tells held command name → ⊥
reads_none tells held command name instance (inl at) = cc (instance, at)
reads_none tells held command name instance (inr at) = cc (instance, at.1.asked)

bad_alone : (o : Option AskedView) (bad : Window) → option_and_then (λ a. bad_window a.report) o ≡ Some bad → option_and_then (λ a. unless_bad (bad_window a.report) a) o ≡ None
bad_alone None bad is = absurd (cc is)
bad_alone (Some asked) bad is = ap (λ (b : Option Window). unless_bad b asked) is

pub bad_reads : (command : Option CommandView) (bad : Window) → bad_window_of command ≡ Some bad → instance_of command ≡ None
bad_reads None bad is = absurd (cc is)
bad_reads (Some (solve words)) bad is = absurd (cc is)
bad_reads (Some (check words)) bad is = absurd (cc is)
bad_reads (Some (cost instance plan)) bad is = absurd (cc is)
bad_reads (Some (bound_all instance)) bad is = absurd (cc is)
bad_reads (Some (patterns instance)) bad is = absurd (cc is)
bad_reads (Some (platforms chart)) bad is = ap (λ (o : Option AskedView). option_map (λ a. a.instance) o) (bad_alone (requested (Some (platforms chart))) bad is)
bad_reads (Some (paths chart)) bad is = ap (λ (o : Option AskedView). option_map (λ a. a.instance) o) (bad_alone (requested (Some (paths chart))) bad is)
bad_reads (Some (make words)) bad is = absurd (cc is)
bad_reads (Some (trial words)) bad is = absurd (cc is)

pub bad_window_reads : (tells : Bool) (held : Held) (command : Option CommandView) (bad : Window) (name : List ℕ) → bad_window_of command ≡ Some bad → Reads tells held command name → ⊥
bad_window_reads tells held command bad name is at = reads_none tells held command name (bad_reads command bad is) at

pub none_reads : (tells : Bool) (held : Held) (command : Option CommandView) (name : List ℕ) → command ≡ None → Reads tells held command name → ⊥
none_reads tells held command name is at = reads_none tells held command name (ap instance_of is) at

pub asked_no_window : (command : Option CommandView) (asked : AskedView) (bad : Window) → asked_of command ≡ Some asked → bad_window_of command ≡ Some bad → ⊥
asked_no_window command asked bad words is = cc (words, bad_alone (requested command) bad is)

-- the words are a command, and of no chart that can't be
record IsOther (command : Option CommandView) : Type 0 where
  pub some : command ≡ None → ⊥
  pub drawn : (bad : Window) → bad_window_of command ≡ Some bad → ⊥

reading_other : (command : Option CommandView) (instance : List ℕ) → instance_of command ≡ Some instance → IsOther command
reading_other command instance is = record {
  some = λ none. let no : instance_of command ≡ None = ap instance_of none in cc (no, is);
  drawn = λ bad window. let no : instance_of command ≡ None = bad_reads command bad window in cc (no, is);
}

named_other : (command : Option CommandView) (words : GeneratedView) → command ≡ Some (make words) → IsOther command
named_other command words is = record {
  some = λ none. cc (none, is);
  drawn = λ bad window. let no : bad_window_of command ≡ None = ap bad_window_of is in cc (no, window);
}

trial_other : (command : Option CommandView) (words : GeneratedView) → command ≡ Some (trial words) → IsOther command
trial_other command words is = record {
  some = λ none. cc (none, is);
  drawn = λ bad window. let no : bad_window_of command ≡ None = ap bad_window_of is in cc (no, window);
}

-- every answer but the usage text and a refused window is of such words
other_answer : (tells : Bool) (held : Held) (command : Option CommandView) (outcome : Outcome) → IsOutcome tells held command outcome
    → (outcome.code ≡ 2) ⊎ ((outcome.code ≡ 12) ⊎ IsOther command)
other_answer tells held command outcome (usage, is) = inl (code_of tells held command outcome usage is)
other_answer tells held command outcome (window, is) = inr (inl (code_of tells held command outcome window is))
other_answer tells held command outcome (unread, is) = inr (inr (reading_other command is.instance is.asked))
other_answer tells held command outcome (optimal, is) = inr (inr (reading_other command is.words.instance (ap instance_of is.asked)))
other_answer tells held command outcome (no_plan, is) = inr (inr (reading_other command is.words.instance (ap instance_of is.asked)))
other_answer tells held command outcome (stopped, is) = inr (inr (reading_other command is.words.instance (ap instance_of is.asked)))
other_answer tells held command outcome (bounded, is) = inr (inr (reading_other command is.instance (ap instance_of is.asked)))
other_answer tells held command outcome (listed, is) = inr (inr (reading_other command is.instance (ap instance_of is.asked)))
other_answer tells held command outcome (made, is) = inr (inr (named_other command is.words is.asked))
other_answer tells held command outcome (tried_optimal, is) = inr (inr (trial_other command is.words is.asked))
other_answer tells held command outcome (tried_none, is) = inr (inr (trial_other command is.words is.asked))
other_answer tells held command outcome (tried_open, is) = inr (inr (trial_other command is.words is.asked))
other_answer tells held command outcome (refused_proof, is) = inr (inr (reading_other command is.words.instance (ap instance_of is.asked)))
other_answer tells held command outcome (checked, is) = inr (inr (reading_other command is.words.instance (ap instance_of is.asked)))
other_answer tells held command outcome (refused_plan, is) = inr (inr (reading_other command is.instance is.asked))
other_answer tells held command outcome (conflict, is) = inr (inr (reading_other command is.instance is.asked))
other_answer tells held command outcome (reported, is) = inr (inr (reading_other command is.asked.instance (asked_instance command is.asked is.words)))

pub bad_status : (tells : Bool) (held : Held) (command : Option CommandView) (bad : Window) (outcome : Outcome) → bad_window_of command ≡ Some bad → IsOutcome tells held command outcome → outcome.code ≡ 12
bad_status tells held command bad outcome words is = elim (other_answer tells held command outcome is) [
  | inl code ↦ absurd (cc (words, ap bad_window_of (usage_answer tells held command outcome is code).asked))
  | inr other ↦ elim other [
    | inl at ↦ at
    | inr rest ↦ absurd (rest.drawn bad words)
  ]
]

pub none_status : (tells : Bool) (held : Held) (command : Option CommandView) (outcome : Outcome) → command ≡ None → IsOutcome tells held command outcome → outcome.code ≡ 2
none_status tells held command outcome words is = elim (other_answer tells held command outcome is) [
  | inl at ↦ at
  | inr other ↦ elim other [
    | inl code ↦ absurd (cc (ap bad_window_of words, (window_status tells held command outcome is code).asked))
    | inr rest ↦ absurd (rest.some words)
  ]
]

-- no answer has the status of a fault
pub no_fault_code : (tells : Bool) (held : Held) (command : Option CommandView) (outcome : Outcome) → IsOutcome tells held command outcome → (outcome.code < 6) ⊎ (8 < outcome.code)
no_fault_code tells held command outcome (answer, is) = by_code answer (code_of tells held command outcome answer is)
  where
    by_code : (answer : Answer) → outcome.code ≡ answer_code answer → (outcome.code < 6) ⊎ (8 < outcome.code)
    by_code window at = inr (omega (arith, at))
    by_code no_plan at = inr (omega (arith, at))
    by_code stopped at = inr (omega (arith, at))
    by_code tried_none at = inr (omega (arith, at))
    by_code tried_open at = inr (omega (arith, at))
    by_code conflict at = inr (omega (arith, at))
    by_code answer at = inl (omega (arith, at))
