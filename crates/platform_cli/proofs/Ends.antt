-- How a run ended: each status with what was given.
use Rattle.std.proofs.Common.{◌≡◌, ◌≢◌, ◌⊎◌, inl, inr, ℕ, ◌<◌, Bool, List, None, Some, sym, ◌∙◌, subst, arith}
use Rattle.std.specs.declared.option.Option.{Option}
use Rattle.std.specs.Prelude.{Contains}
use Rattle.command_words.specs.Command.{CommandView, SolveView, CheckView, GeneratedView, solve, check, bound_all, patterns, make, trial}
use Rattle.shelf.specs.Outside.{Same, Rose}
use Rattle.station_reader.specs.Reading.{reading}
use Rattle.platform_cli.specs.declared.asked.Window.{Window}
use Rattle.platform_cli.specs.Answers.{IsUsage, IsWindow, IsUnread, IsOptimal, IsBounded, IsListed, IsMade, IsTriedOptimal, IsNoPlan, IsTriedNoPlan, IsOpen, IsTriedOpen, IsProofRefused, IsChecked, IsPlanRefused, IsConflict, IsReported}
use Rattle.platform_cli.specs.Asked.{AskedView, Reads, Writes, asked_of, bad_window_of}
use Rattle.platform_cli.specs.Exact.{NoCallFailed, SearchEnds, SolveEnds, CheckEnds, ListingEnds, ReportEnds, statuses}
use Rattle.platform_cli.specs.Given.{Outcome}
use Rattle.platform_cli.specs.Instance.{Held}
use Rattle.platform_cli.specs.Outcome.{IsOutcome}
use Rattle.platform_cli.specs.Run.{Faults, IsFinished, IsDone, IsCut, IsCutOff, IsNothing, IsEnded, IsPlanFile, IsProofKept, WasGiven}
use Rattle.platform_cli.specs.Statuses.{stop_code}
use Rattle.platform_cli.specs.Trial.{trial_case, trial_splits}
use Rattle.platform_cli.specs.declared.output.Stop.{Stop}
use Rattle.platform_cli.specs.declared.output.Stop.TheVariants.{ReadFault, WriteFault, Memory}
use Rattle.platform_cli.proofs.Files.{IsOldOrWhole, all_kept, part_kept}
use Rattle.platform_cli.proofs.Exactness.{status_in, solve_status, trial_status, check_status, bound_status, listing_status, report_status}
use Rattle.platform_cli.proofs.Outcomes.{SaysNoPlan, SaysOpen, no_fault_code, usage_answer, window_status, refused_answer, no_plan_answer, stopped_answer, proof_refused_answer, plan_refused_answer, conflict_answer, optimal_answer, checked_status, made_status, tried_status, bounded_status, listed_status, reported_answer, bad_status, none_status, bad_window_reads, none_reads}
use Rattle.platform_cli.proofs.PlanFiles.{unwritten_kept, plan_kept, proof_kept}
use Rattle.command_words.specs.Command.{are_apart}
use Rattle.std.proofs.Common.{true}

pub write_stop : (stop : Stop) (n : ℕ) → n ≡ stop_code stop → n ≡ 7 → stop ≡ WriteFault
write_stop ReadFault n is seven = absurd (omega (arith, is, seven))
write_stop WriteFault n is seven = λ _. WriteFault
write_stop Memory n is seven = absurd (omega (arith, is, seven))

pub read_stop : (stop : Stop) (n : ℕ) → n ≡ stop_code stop → n ≡ 6 → stop ≡ ReadFault
read_stop ReadFault n is six = λ _. ReadFault
read_stop WriteFault n is six = absurd (omega (arith, is, six))
read_stop Memory n is six = absurd (omega (arith, is, six))

-- a delivery ends by no read fault
pub cut_off : (stop : Stop) (n : ℕ) → n ≡ stop_code stop → (stop ≡ ReadFault → ⊥) → IsCutOff n
cut_off ReadFault n is none = absurd (none (λ _. ReadFault))
cut_off WriteFault n is none = inl is
cut_off Memory n is none = inr is

pub stopped_at : (stop : Stop) (n : ℕ) → n ≡ stop_code stop → (n ≡ 6) ⊎ IsCutOff n
stopped_at ReadFault n is = inl is
stopped_at WriteFault n is = inr (inl is)
stopped_at Memory n is = inr (inr is)

finished_at : (status n : ℕ) → status ≡ n → (n < 6) ⊎ (8 < n) → IsFinished status
finished_at status n at (inl below) = record {
  no_read_fault = λ six. omega (arith, at, six, below);
  no_write_fault = λ seven. omega (arith, at, seven, below);
  memory_found = λ eight. omega (arith, at, eight, below);
}
finished_at status n at (inr above) = record {
  no_read_fault = λ six. omega (arith, at, six, above);
  no_write_fault = λ seven. omega (arith, at, seven, above);
  memory_found = λ eight. omega (arith, at, eight, above);
}

-- no fault where no call failed and memory was found
rose_none : {P : List ℕ → Type 0} (before now : Faults) → ((name : List ℕ) × P name × (before name < now name)) → Same before now → ⊥
rose_none before now (name, at, rose) same = omega (arith, rose, same name)

pub quiet_finished : (tells : Bool) (held : Held) (command : Option CommandView) (status : ℕ) (reads_before reads_now writes_before writes_now : Faults) (puts_before puts_now : ℕ)
    → (status ≡ 6 → (name : List ℕ) × Reads tells held command name × (reads_before name < reads_now name))
    → (status ≡ 7 → ((name : List ℕ) × Writes command name × (writes_before name < writes_now name)) ⊎ Rose puts_before puts_now)
    → NoCallFailed reads_before reads_now writes_before writes_now puts_before puts_now → status ≢ 8 → IsFinished status
quiet_finished tells held command status reads_before reads_now writes_before writes_now puts_before puts_now read write quiet memory = record {
  no_read_fault = λ six. rose_none {P = Reads tells held command} reads_before reads_now (read six) quiet.reads;
  no_write_fault = λ seven. elim (write seven) [
    | inl file ↦ rose_none {P = Writes command} writes_before writes_now file quiet.writes
    | inr rose ↦ quiet.puts rose
  ];
  memory_found = memory;
}

module _ {tells : Bool} {command : Option CommandView} {status : ℕ} {old new : Held} {faults_before faults_now : Faults} {before now : Option (List ℕ)}
    (ended : IsEnded tells command status old new faults_before faults_now before now) where
  pub done_of : IsFinished status → IsDone tells command status old new before now
  done_of finished = elim ended.way [
    | inl done ↦ done
    | inr other ↦ elim other [
      | inl cut ↦ elim cut.0 [ inl seven ↦ absurd (finished.no_write_fault seven) | inr eight ↦ absurd (finished.memory_found eight) ]
      | inr stop ↦ elim stop.0 [
        | inl six ↦ absurd (finished.no_read_fault six)
        | inr cut ↦ elim cut [ inl seven ↦ absurd (finished.no_write_fault seven) | inr eight ↦ absurd (finished.memory_found eight) ]
      ]
    ]
  ]

  -- what was given with this status
  pub given_at : (n : ℕ) → status ≡ n → (n < 6) ⊎ (8 < n) → (P : Outcome → Type 0) → ((outcome : Outcome) → IsOutcome tells old command outcome → outcome.code ≡ n → P outcome) → WasGiven P tells old new before now
  given_at n at side P answer =
      let done = done_of (finished_at status n at side) in
      record {
        outcome = done.outcome;
        is = answer done.outcome done.is_outcome (sym done.code ∙ at);
        text = done.text;
        files = done.files;
      }

  pub optimal_given : (words : SolveView) → command ≡ Some (solve words) → status ≡ 0 → WasGiven (IsOptimal tells old command) tells old new before now
  optimal_given words asked at = given_at 0 at (inl (omega arith)) (IsOptimal tells old command) (λ outcome is code. optimal_answer tells old command words outcome asked is code)

  pub checked_given : (words : CheckView) → command ≡ Some (check words) → status ≡ 0 → WasGiven (IsChecked tells old command) tells old new before now
  checked_given words asked at = given_at 0 at (inl (omega arith)) (IsChecked tells old command) (λ outcome is code. checked_status tells old command words outcome asked is code)

  pub made_given : (words : GeneratedView) → command ≡ Some (make words) → status ≡ 0 → WasGiven (IsMade command) tells old new before now
  made_given words asked at = given_at 0 at (inl (omega arith)) (IsMade command) (λ outcome is code. made_status tells old command words outcome asked is code)

  pub tried_given : (words : GeneratedView) → command ≡ Some (trial words) → status ≡ 0 → WasGiven (IsTriedOptimal command) tells old new before now
  tried_given words asked at = given_at 0 at (inl (omega arith)) (IsTriedOptimal command) (λ outcome is code. tried_status tells old command words outcome asked is code)

  pub bounded_given : (instance : List ℕ) → command ≡ Some (bound_all instance) → status ≡ 0 → WasGiven (IsBounded tells old command) tells old new before now
  bounded_given instance words at = given_at 0 at (inl (omega arith)) (IsBounded tells old command) (λ outcome is code. bounded_status tells old command instance outcome words is code)

  pub listed_given : (instance : List ℕ) → command ≡ Some (patterns instance) → status ≡ 0 → WasGiven (IsListed tells old command) tells old new before now
  listed_given instance words at = given_at 0 at (inl (omega arith)) (IsListed tells old command) (λ outcome is code. listed_status tells old command instance outcome words is code)

  pub reported_given : (asked : AskedView) → asked_of command ≡ Some asked → status ≡ 0 → WasGiven (IsReported tells old command) tells old new before now
  reported_given asked words at = given_at 0 at (inl (omega arith)) (IsReported tells old command) (λ outcome is code. reported_answer tells old command asked outcome words is code)

  -- of two kinds one was given
  either_given : (P Q : Outcome → Type 0) → WasGiven (λ outcome. P outcome ⊎ Q outcome) tells old new before now → WasGiven P tells old new before now ⊎ WasGiven Q tells old new before now
  either_given P Q given = elim given.is [
    | inl is ↦ inl (record { outcome = given.outcome; is = is; text = given.text; files = given.files })
    | inr is ↦ inr (record { outcome = given.outcome; is = is; text = given.text; files = given.files })
  ]

  pub no_plan_given : status ≡ 10 → WasGiven (IsNoPlan tells old command) tells old new before now ⊎ WasGiven (IsTriedNoPlan command) tells old new before now
  no_plan_given at = either_given (IsNoPlan tells old command) (IsTriedNoPlan command)
      (given_at 10 at (inr (omega arith)) (SaysNoPlan tells old command) (λ outcome is code. no_plan_answer tells old command outcome is code))

  pub open_given : status ≡ 11 → WasGiven (IsOpen tells old command) tells old new before now ⊎ WasGiven (IsTriedOpen command) tells old new before now
  open_given at = either_given (IsOpen tells old command) (IsTriedOpen command)
      (given_at 11 at (inr (omega arith)) (SaysOpen tells old command) (λ outcome is code. stopped_answer tells old command outcome is code))

  pub proof_refused_given : status ≡ 5 → WasGiven (IsProofRefused tells old command) tells old new before now
  proof_refused_given at = given_at 5 at (inl (omega arith)) (IsProofRefused tells old command) (λ outcome is code. proof_refused_answer tells old command outcome is code)

  pub plan_refused_given : status ≡ 4 → WasGiven (IsPlanRefused tells old command) tells old new before now
  plan_refused_given at = given_at 4 at (inl (omega arith)) (IsPlanRefused tells old command) (λ outcome is code. plan_refused_answer tells old command outcome is code)

  pub conflict_given : status ≡ 9 → WasGiven (IsConflict tells old command) tells old new before now
  conflict_given at = given_at 9 at (inr (omega arith)) (IsConflict tells old command) (λ outcome is code. conflict_answer tells old command outcome is code)

  pub window_given : status ≡ 12 → WasGiven (IsWindow command) tells old new before now
  window_given at = given_at 12 at (inr (omega arith)) (IsWindow command) (λ outcome is code. window_status tells old command outcome is code)

  pub usage_given : status ≡ 2 → WasGiven (IsUsage command) tells old new before now
  usage_given at = given_at 2 at (inl (omega arith)) (IsUsage command) (λ outcome is code. usage_answer tells old command outcome is code)

  pub refused_given : status ≡ 3 → WasGiven (IsUnread tells old command) tells old new before now
  refused_given at = given_at 3 at (inl (omega arith)) (IsUnread tells old command) (λ outcome is code. refused_answer tells old command outcome is code)

  done_side : IsDone tells command status old new before now → (status < 6) ⊎ (8 < status)
  done_side done = elim (no_fault_code tells old command done.outcome done.is_outcome) [
    | inl below ↦ inl (omega (arith, done.code, below))
    | inr above ↦ inr (omega (arith, done.code, above))
  ]

  -- an outcome was given whole, unless the status is of a fault
  done_or_stopped : IsDone tells command status old new before now ⊎ ((status ≡ 6) ⊎ IsCutOff status)
  done_or_stopped = elim ended.way [
    | inl done ↦ inl done
    | inr other ↦ elim other [ inl cut ↦ inr (inr cut.0) | inr stop ↦ inr stop.0 ]
  ]

  -- a command that reads nothing has its status, but for a fault while its line is put
  pub unread_status : (n : ℕ) → ((outcome : Outcome) → IsOutcome tells old command outcome → outcome.code ≡ n) → (status ≡ 6 → ⊥) → (status ≡ n) ⊎ IsCutOff status
  unread_status n always no_read = elim done_or_stopped [
    | inl done ↦ inl (done.code ∙ always done.outcome done.is_outcome)
    | inr stop ↦ elim stop [ inl six ↦ absurd (no_read six) | inr cut ↦ inr cut ]
  ]

  pub bad_window_status : (reads_before reads_now : Faults) (bad : Window) → bad_window_of command ≡ Some bad → (status ≡ 6 → (name : List ℕ) × Reads tells old command name × (reads_before name < reads_now name)) → (status ≡ 12) ⊎ IsCutOff status
  bad_window_status reads_before reads_now bad words read =
      unread_status 12 (λ outcome is. bad_status tells old command bad outcome words is) (λ six. bad_window_reads tells old command bad (read six).0 words (read six).1)

  pub usage_status : (reads_before reads_now : Faults) → command ≡ None → (status ≡ 6 → (name : List ℕ) × Reads tells old command name × (reads_before name < reads_now name)) → (status ≡ 2) ⊎ IsCutOff status
  usage_status reads_before reads_now words read =
      unread_status 2 (λ outcome is. none_status tells old command outcome words is) (λ six. none_reads tells old command (read six).0 words (read six).1)

  pub nothing_given : status ≡ 6 → IsNothing old new before now
  nothing_given six = elim ended.way [
    | inl done ↦ elim (done_side done) [ inl below ↦ absurd (omega (arith, six, below)) | inr above ↦ absurd (omega (arith, six, above)) ]
    | inr other ↦ elim other [
      | inl cut ↦ elim cut.0 [ inl seven ↦ absurd (omega (arith, six, seven)) | inr eight ↦ absurd (omega (arith, six, eight)) ]
      | inr stop ↦ stop.1
    ]
  ]

  pub front_given : IsCutOff status → IsNothing old new before now ⊎ IsCut tells command old new faults_before faults_now before now
  front_given at = elim ended.way [
    | inl done ↦ elim (done_side done) [
      | inl below ↦ elim at [ inl seven ↦ absurd (omega (arith, seven, below)) | inr eight ↦ absurd (omega (arith, eight, below)) ]
      | inr above ↦ elim at [ inl seven ↦ absurd (omega (arith, seven, above)) | inr eight ↦ absurd (omega (arith, eight, above)) ]
    ]
    | inr other ↦ elim other [ inl cut ↦ inr cut.1 | inr stop ↦ inl stop.1 ]
  ]

  -- a name holds what it held, or is as an outcome leaves it
  named_as : (name : List ℕ) → (new name ≡ old name) ⊎ ((outcome : Outcome) × IsOutcome tells old command outcome × IsOldOrWhole tells outcome.files old new faults_before faults_now name)
  named_as name = elim ended.way [
    | inl done ↦ inr (done.outcome, done.is_outcome, all_kept tells done.outcome.files old new faults_before faults_now done.files name)
    | inr other ↦ elim other [
      | inl cut ↦ inr (cut.1.outcome, cut.1.is_outcome, part_kept tells cut.1.outcome old new faults_before faults_now before now cut.1.given name)
      | inr stop ↦ inl (stop.1.held name)
    ]
  ]

  pub kept_name : (name : List ℕ) → (Writes command name → ⊥) → new name ≡ old name
  kept_name name unwritten = elim (named_as name) [
    | inl same ↦ same
    | inr left ↦ unwritten_kept tells command left.0 old new faults_before faults_now name left.1 unwritten left.2
  ]

  pub kept_plan : (words : SolveView) (name : List ℕ) → command ≡ Some (solve words) → are_apart words.instance words.plan words.proof ≡ true → words.plan ≡ Some name
      → IsPlanFile tells old new faults_before faults_now words.instance name
  kept_plan words name asked apart named = elim (named_as name) [
    | inl same ↦ inl same
    | inr left ↦ plan_kept tells command left.0 old new faults_before faults_now words name left.1 asked apart named left.2
  ]

  pub kept_proof : (words : SolveView) (name : List ℕ) → command ≡ Some (solve words) → are_apart words.instance words.plan words.proof ≡ true → words.proof ≡ Some name
      → IsProofKept tells old new faults_before faults_now words.instance name
  kept_proof words name asked apart named = elim (named_as name) [
    | inl same ↦ inl same
    | inr left ↦ proof_kept tells command left.0 old new faults_before faults_now words name left.1 asked apart named left.2
  ]

  -- where the run is finished, the command's statuses and what the shelf holds say which it is

  pub complete_given : IsFinished status → Contains (statuses command) status
  complete_given finished = let done = done_of finished in status_in tells old command status done.outcome done.is_outcome done.code

  pub solve_given : (words : SolveView) (whole : List ℕ) → command ≡ Some (solve words) → old words.instance ≡ Some whole → IsFinished status → SolveEnds words.splits (reading whole) status
  solve_given words whole asked holds finished =
      let done = done_of finished in
      subst (λ (n : ℕ). SolveEnds words.splits (reading whole) n) (sym done.code) (solve_status tells old command words whole done.outcome asked holds done.is_outcome)

  pub trial_given : (words : GeneratedView) → command ≡ Some (trial words) → IsFinished status → SearchEnds (trial_case words) trial_splits status
  trial_given words asked finished =
      let done = done_of finished in
      subst (λ (n : ℕ). SearchEnds (trial_case words) trial_splits n) (sym done.code) (trial_status tells old command words done.outcome asked done.is_outcome)

  pub check_given : (words : CheckView) (whole : List ℕ) → command ≡ Some (check words) → old words.instance ≡ Some whole → IsFinished status → CheckEnds old words (reading whole) status
  check_given words whole asked holds finished =
      let done = done_of finished in
      subst (λ (n : ℕ). CheckEnds old words (reading whole) n) (sym done.code) (check_status tells old command words whole done.outcome asked holds done.is_outcome)

  pub bounding_given : (instance whole : List ℕ) → command ≡ Some (bound_all instance) → old instance ≡ Some whole → IsFinished status → ListingEnds (reading whole) status
  bounding_given instance whole words holds finished =
      let done = done_of finished in
      subst (λ (n : ℕ). ListingEnds (reading whole) n) (sym done.code) (bound_status tells old command instance whole done.outcome words holds done.is_outcome)

  pub listing_given : (instance whole : List ℕ) → command ≡ Some (patterns instance) → old instance ≡ Some whole → IsFinished status → ListingEnds (reading whole) status
  listing_given instance whole words holds finished =
      let done = done_of finished in
      subst (λ (n : ℕ). ListingEnds (reading whole) n) (sym done.code) (listing_status tells old command instance whole done.outcome words holds done.is_outcome)

  pub report_given : (asked : AskedView) (whole : List ℕ) → asked_of command ≡ Some asked → old asked.instance ≡ Some whole → IsFinished status → ReportEnds old asked.plan (reading whole) status
  report_given asked whole words holds finished =
      let done = done_of finished in
      subst (λ (n : ℕ). ReportEnds old asked.plan (reading whole) n) (sym done.code) (report_status tells old command asked whole done.outcome words holds done.is_outcome)
