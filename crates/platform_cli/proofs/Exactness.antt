-- The status that the words and the files have.
use Rattle.std.proofs.Common.{◌≡◌, ◌<◌, inl, inr, ℕ, Bool, List, IfSome, None, Some, Result, Ok, Err, refl, sym, ◌∙◌, ap, subst, arith}
use Rattle.std.specs.declared.option.Option.{Option}
use Rattle.std.specs.Prelude.{Contains}
use Rattle.std.proofs.lemmas.Option.{same_Some}
use Rattle.command_words.specs.Command.{CommandView, SolveView, CheckView, GeneratedView, solve, check, cost, bound_all, patterns, platforms, paths, make, trial}
use Rattle.station_reader.specs.Reading.{Reading, reading}
use Rattle.pair_prices.specs.Case.{CaseRecord, rule_case}
use Rattle.plan_cost.specs.PlanReading.{PlanReading, plan_reading}
use Rattle.branching.specs.Answer.{split_bound}
use Rattle.leaf_bounds.specs.declared.tree.Bound.{Bound}
use Rattle.proof_rules.specs.declared.refused.ProofRefused.{ProofRefused}
use Rattle.proof_rules.specs.Verdict.{proof_reading}
use Rattle.platform_cli.specs.declared.asked.Window.{Window}
use Rattle.platform_cli.specs.Answers.{IsBoundTold, IsProofTaken}
use Rattle.platform_cli.specs.Asked.{AskedView, asked_of, bad_window_of, instance_of, plan_of}
use Rattle.platform_cli.specs.Exact.{statuses, SearchEnds, SolveEnds, ListingEnds, PlanEnds, ReportEnds, BesideEnds, ProofEnds, CheckEnds}
use Rattle.platform_cli.specs.Given.{Outcome}
use Rattle.platform_cli.specs.Instance.{Held, IsInstance, IsPlan, IsProof}
use Rattle.platform_cli.specs.Outcome.{Answer, IsAnswer, IsOutcome, usage, window, unread, optimal, no_plan, stopped, bounded, listed, made, tried_optimal, tried_none, tried_open, refused_proof, checked, refused_plan, conflict, reported}
use Rattle.platform_cli.specs.Trial.{trial_case, trial_splits}
use Rattle.platform_cli.proofs.Answering.{asked_instance, asked_plan}
use Rattle.platform_cli.proofs.Outcomes.{answer_code, code_of, asked_no_solve, asked_no_check, asked_no_make, asked_no_trial, asked_no_bound, asked_no_patterns, asked_no_window}

-- each answer's status is one of its command's

window_in_statuses : (command : Option CommandView) (bad : Window) → bad_window_of command ≡ Some bad → Contains (statuses command) 12
window_in_statuses None bad is = absurd (cc is)
window_in_statuses (Some (solve words)) bad is = absurd (cc is)
window_in_statuses (Some (check words)) bad is = absurd (cc is)
window_in_statuses (Some (cost instance plan)) bad is = absurd (cc is)
window_in_statuses (Some (bound_all instance)) bad is = absurd (cc is)
window_in_statuses (Some (patterns instance)) bad is = absurd (cc is)
window_in_statuses (Some (platforms chart)) bad is = (4, omega arith, refl)
window_in_statuses (Some (paths chart)) bad is = (4, omega arith, refl)
window_in_statuses (Some (make words)) bad is = absurd (cc is)
window_in_statuses (Some (trial words)) bad is = absurd (cc is)

unread_in_statuses : (command : Option CommandView) (instance : List ℕ) → instance_of command ≡ Some instance → Contains (statuses command) 3
unread_in_statuses None instance is = absurd (cc is)
unread_in_statuses (Some (solve words)) instance is = (1, omega arith, refl)
unread_in_statuses (Some (check words)) instance is = (1, omega arith, refl)
unread_in_statuses (Some (cost name plan)) instance is = (1, omega arith, refl)
unread_in_statuses (Some (bound_all name)) instance is = (1, omega arith, refl)
unread_in_statuses (Some (patterns name)) instance is = (1, omega arith, refl)
unread_in_statuses (Some (platforms chart)) instance is = (1, omega arith, refl)
unread_in_statuses (Some (paths chart)) instance is = (1, omega arith, refl)
unread_in_statuses (Some (make words)) instance is = absurd (cc is)
unread_in_statuses (Some (trial words)) instance is = absurd (cc is)

-- the statuses of a command that reads a plan
record PlanIn (codes : List ℕ) : Type 0 where
  pub refused : Contains codes 4
  pub conflict : Contains codes 9

plan_in_statuses : (command : Option CommandView) (name : List ℕ) → plan_of command ≡ Some name → PlanIn (statuses command)
plan_in_statuses None name is = absurd (cc is)
plan_in_statuses (Some (solve words)) name is = absurd (cc is)
plan_in_statuses (Some (check words)) name is = record { refused = (2, omega arith, refl); conflict = (4, omega arith, refl) }
plan_in_statuses (Some (cost instance plan)) name is = record { refused = (2, omega arith, refl); conflict = (3, omega arith, refl) }
plan_in_statuses (Some (bound_all instance)) name is = absurd (cc is)
plan_in_statuses (Some (patterns instance)) name is = absurd (cc is)
plan_in_statuses (Some (platforms chart)) name is = record { refused = (2, omega arith, refl); conflict = (3, omega arith, refl) }
plan_in_statuses (Some (paths chart)) name is = record { refused = (2, omega arith, refl); conflict = (3, omega arith, refl) }
plan_in_statuses (Some (make words)) name is = absurd (cc is)
plan_in_statuses (Some (trial words)) name is = absurd (cc is)

report_in_statuses : (command : Option CommandView) (asked : AskedView) → asked_of command ≡ Some asked → Contains (statuses command) 0
report_in_statuses None asked is = absurd (cc is)
report_in_statuses (Some (solve words)) asked is = absurd (cc is)
report_in_statuses (Some (check words)) asked is = absurd (cc is)
report_in_statuses (Some (cost name plan)) asked is = (0, omega arith, refl)
report_in_statuses (Some (bound_all name)) asked is = absurd (cc is)
report_in_statuses (Some (patterns name)) asked is = absurd (cc is)
report_in_statuses (Some (platforms chart)) asked is = (0, omega arith, refl)
report_in_statuses (Some (paths chart)) asked is = (0, omega arith, refl)
report_in_statuses (Some (make words)) asked is = absurd (cc is)
report_in_statuses (Some (trial words)) asked is = absurd (cc is)

of_command : (command : Option CommandView) (other : CommandView) (n : ℕ) → command ≡ Some other → Contains (statuses (Some other)) n → Contains (statuses command) n
of_command command other n is there = subst (λ (c : Option CommandView). Contains (statuses c) n) (sym is) there

answer_in_statuses : (tells : Bool) (held : Held) (command : Option CommandView) (outcome : Outcome) (answer : Answer) → IsAnswer answer tells held command outcome → Contains (statuses command) (answer_code answer)
answer_in_statuses tells held command outcome usage is = subst (λ (c : Option CommandView). Contains (statuses c) 2) (sym is.asked) (0, omega arith, refl)
answer_in_statuses tells held command outcome window is = window_in_statuses command is.window is.asked
answer_in_statuses tells held command outcome unread is = unread_in_statuses command is.instance is.asked
answer_in_statuses tells held command outcome optimal is = of_command command (solve is.words) 0 is.asked (0, omega arith, refl)
answer_in_statuses tells held command outcome no_plan is = of_command command (solve is.words) 10 is.asked (2, omega arith, refl)
answer_in_statuses tells held command outcome stopped is = of_command command (solve is.words) 11 is.asked (3, omega arith, refl)
answer_in_statuses tells held command outcome bounded is = of_command command (bound_all is.instance) 0 is.asked (0, omega arith, refl)
answer_in_statuses tells held command outcome listed is = of_command command (patterns is.instance) 0 is.asked (0, omega arith, refl)
answer_in_statuses tells held command outcome made is = of_command command (make is.words) 0 is.asked (0, omega arith, refl)
answer_in_statuses tells held command outcome tried_optimal is = of_command command (trial is.words) 0 is.asked (0, omega arith, refl)
answer_in_statuses tells held command outcome tried_none is = of_command command (trial is.words) 10 is.asked (1, omega arith, refl)
answer_in_statuses tells held command outcome tried_open is = of_command command (trial is.words) 11 is.asked (2, omega arith, refl)
answer_in_statuses tells held command outcome refused_proof is = of_command command (check is.words) 5 is.asked (3, omega arith, refl)
answer_in_statuses tells held command outcome checked is = of_command command (check is.words) 0 is.asked (0, omega arith, refl)
answer_in_statuses tells held command outcome refused_plan is = (plan_in_statuses command is.name is.named).refused
answer_in_statuses tells held command outcome conflict is = (plan_in_statuses command is.name is.named).conflict
answer_in_statuses tells held command outcome reported is = report_in_statuses command is.asked is.words

pub status_in : (tells : Bool) (held : Held) (command : Option CommandView) (status : ℕ) (outcome : Outcome) → IsOutcome tells held command outcome → status ≡ outcome.code → Contains (statuses command) status
status_in tells held command status outcome (answer, is) code =
    subst (λ (n : ℕ). Contains (statuses command) n) (sym (code ∙ code_of tells held command outcome answer is)) (answer_in_statuses tells held command outcome answer is)

-- the instance that is held is read as it was
read_as : (tells : Bool) (held : Held) (command : Option CommandView) (instance other whole : List ℕ) (is : Reading) → held instance ≡ Some whole → instance_of command ≡ Some instance → instance_of command ≡ Some other
    → IsInstance tells held other is → reading whole ≡ is
read_as tells held command instance other whole is holds words asked there =
    let same : ◌≡◌ {A = Option (List ℕ)} (Some other) (Some instance) = sym asked ∙ words in
    subst (λ (known : Option (List ℕ)). IfSome known (λ bytes. reading bytes ≡ is)) (ap held (same_Some other instance same) ∙ holds) there.whole

-- the plan that is held is read as it was
plan_as : (tells : Bool) (held : Held) (command : Option CommandView) (name other bytes : List ℕ) (c : CaseRecord) (is : PlanReading) → held name ≡ Some bytes → plan_of command ≡ Some name → plan_of command ≡ Some other
    → IsPlan tells held other c is → plan_reading c bytes ≡ is
plan_as tells held command name other bytes c is holds words asked there =
    let same : ◌≡◌ {A = Option (List ℕ)} (Some other) (Some name) = sym asked ∙ words in
    subst (λ (known : Option (List ℕ)). IfSome known (λ bytes. plan_reading c bytes ≡ is)) (ap held (same_Some other name same) ∙ holds) there.whole

-- and so is the proof
proof_as : (tells : Bool) (held : Held) (name bytes : List ℕ) (c : CaseRecord) (is : Result Bound ProofRefused) → held name ≡ Some bytes → IsProof tells held name c is → proof_reading c bytes ≡ is
proof_as tells held name bytes c is holds there = subst (λ (known : Option (List ℕ)). IfSome known (λ bytes. proof_reading c bytes ≡ is)) holds there.whole

module _ (tells : Bool) (held : Held) (command : Option CommandView) (words : SolveView) (whole : List ℕ) (outcome : Outcome) (asked : command ≡ Some (solve words)) (holds : held words.instance ≡ Some whole) where
  solve_read : (instance : List ℕ) (is : Reading) → instance_of command ≡ Some instance → IsInstance tells held instance is → SolveEnds words.splits is outcome.code → SolveEnds words.splits (reading whole) outcome.code
  solve_read instance is own there ends =
      subst (λ (r : Reading). SolveEnds words.splits r outcome.code) (sym (read_as tells held command words.instance instance whole is holds (ap instance_of asked) own there)) ends

  pub solve_status : IsOutcome tells held command outcome → SolveEnds words.splits (reading whole) outcome.code
  solve_status (usage, is) = absurd (cc (asked, is.asked))
  solve_status (window, is) = absurd (cc (ap bad_window_of asked, is.asked))
  solve_status (unread, is) = solve_read is.instance _ is.asked is.read (code_of tells held command outcome unread is)
  solve_status (optimal, is) = solve_read is.words.instance _ (ap instance_of is.asked) is.read (record {
    some = λ plan feasible. inl (code_of tells held command outcome optimal is);
    none = λ none. absurd (none is.found.plan is.found.least.feasible);
  })
  solve_status (no_plan, is) = solve_read is.words.instance _ (ap instance_of is.asked) is.read (record {
    some = λ plan feasible. absurd (is.found.none plan feasible);
    none = λ none. inl (code_of tells held command outcome no_plan is);
  })
  solve_status (stopped, is) =
      let same : is.words ≡ words = cc (asked, is.asked) in
      let more : words.splits < split_bound (rule_case is.station) = subst (λ (w : SolveView). w.splits < split_bound (rule_case is.station)) same is.found.stopped.more in
      solve_read is.words.instance _ (ap instance_of is.asked) is.read (record {
        some = λ plan feasible. inr (code_of tells held command outcome stopped is, more);
        none = λ none. inr (code_of tells held command outcome stopped is, more);
      })
  solve_status (bounded, is) = absurd (cc (asked, is.asked))
  solve_status (listed, is) = absurd (cc (asked, is.asked))
  solve_status (made, is) = absurd (cc (asked, is.asked))
  solve_status (tried_optimal, is) = absurd (cc (asked, is.asked))
  solve_status (tried_none, is) = absurd (cc (asked, is.asked))
  solve_status (tried_open, is) = absurd (cc (asked, is.asked))
  solve_status (refused_proof, is) = absurd (cc (asked, is.asked))
  solve_status (checked, is) = absurd (cc (asked, is.asked))
  solve_status (refused_plan, is) = absurd (cc (ap plan_of asked, is.named))
  solve_status (conflict, is) = absurd (cc (ap plan_of asked, is.named))
  solve_status (reported, is) = absurd (asked_no_solve command words is.asked asked is.words)

module _ (tells : Bool) (held : Held) (command : Option CommandView) (words : GeneratedView) (outcome : Outcome) (asked : command ≡ Some (trial words)) where
  trial_same : (other : GeneratedView) → command ≡ Some (trial other) → SearchEnds (trial_case other) trial_splits outcome.code → SearchEnds (trial_case words) trial_splits outcome.code
  trial_same other own ends =
      let same : other ≡ words = cc (asked, own) in
      subst (λ (w : GeneratedView). SearchEnds (trial_case w) trial_splits outcome.code) same ends

  pub trial_status : IsOutcome tells held command outcome → SearchEnds (trial_case words) trial_splits outcome.code
  trial_status (usage, is) = absurd (cc (asked, is.asked))
  trial_status (window, is) = absurd (cc (ap bad_window_of asked, is.asked))
  trial_status (unread, is) = absurd (cc (ap instance_of asked, is.asked))
  trial_status (optimal, is) = absurd (cc (asked, is.asked))
  trial_status (no_plan, is) = absurd (cc (asked, is.asked))
  trial_status (stopped, is) = absurd (cc (asked, is.asked))
  trial_status (bounded, is) = absurd (cc (asked, is.asked))
  trial_status (listed, is) = absurd (cc (asked, is.asked))
  trial_status (made, is) = absurd (cc (asked, is.asked))
  trial_status (tried_optimal, is) = trial_same is.words is.asked (record {
    some = λ plan feasible. inl (code_of tells held command outcome tried_optimal is);
    none = λ none. absurd (none is.found.plan is.found.least.feasible);
  })
  trial_status (tried_none, is) = trial_same is.words is.asked (record {
    some = λ plan feasible. absurd (is.found.none plan feasible);
    none = λ none. inl (code_of tells held command outcome tried_none is);
  })
  trial_status (tried_open, is) = trial_same is.words is.asked (record {
    some = λ plan feasible. inr (code_of tells held command outcome tried_open is, is.found.stopped.more);
    none = λ none. inr (code_of tells held command outcome tried_open is, is.found.stopped.more);
  })
  trial_status (refused_proof, is) = absurd (cc (asked, is.asked))
  trial_status (checked, is) = absurd (cc (asked, is.asked))
  trial_status (refused_plan, is) = absurd (cc (ap instance_of asked, is.asked))
  trial_status (conflict, is) = absurd (cc (ap instance_of asked, is.asked))
  trial_status (reported, is) = absurd (asked_no_trial command words is.asked asked is.words)

module _ (tells : Bool) (held : Held) (command : Option CommandView) (words : CheckView) (whole : List ℕ) (outcome : Outcome) (asked : command ≡ Some (check words)) (holds : held words.instance ≡ Some whole) where
  check_read : (instance : List ℕ) (is : Reading) → instance_of command ≡ Some instance → IsInstance tells held instance is → CheckEnds held words is outcome.code → CheckEnds held words (reading whole) outcome.code
  check_read instance is own there ends =
      subst (λ (r : Reading). CheckEnds held words r outcome.code) (sym (read_as tells held command words.instance instance whole is holds (ap instance_of asked) own there)) ends

  -- a proof that is read so
  check_proof : (c : CaseRecord) (is : Result Bound ProofRefused) → IsProof tells held words.proof c is → ProofEnds held c words.plan is outcome.code
      → (bytes : List ℕ) → held words.proof ≡ Some bytes → ProofEnds held c words.plan (proof_reading c bytes) outcome.code
  check_proof c is there ends bytes known =
      subst (λ (r : Result Bound ProofRefused). ProofEnds held c words.plan r outcome.code) (sym (proof_as tells held words.proof bytes c is known there)) ends

  -- a plan beside it that is read so
  check_plan : (c : CaseRecord) (name : List ℕ) (is : PlanReading) → plan_of command ≡ Some name → IsPlan tells held name c is → PlanEnds c is outcome.code → BesideEnds held c words.plan outcome.code
  check_plan c name is named there ends =
      let own : words.plan ≡ Some name = ap plan_of (sym asked) ∙ named in
      subst (λ (o : Option (List ℕ)). BesideEnds held c o outcome.code) (sym own)
      (λ bytes known. subst (λ (r : PlanReading). PlanEnds c r outcome.code) (sym (plan_as tells held command name name bytes c is known named named there)) ends)

  -- the proof was accepted before
  accepted_before : (c : CaseRecord) → IsProofTaken tells held command c → (bound : Bound) × IsProof tells held words.proof c (Ok bound)
  accepted_before c before = subst (λ (k : Option CommandView). IsProofTaken tells held k c) asked before

  told_ends : (c : CaseRecord) (bound : Bound) (plan : Option (List ℕ)) → words.plan ≡ plan → IsBoundTold tells held plan c bound outcome → BesideEnds held c words.plan outcome.code
  told_ends c bound None own told = subst (λ (o : Option (List ℕ)). BesideEnds held c o outcome.code) (sym own) (ap (λ (o : Outcome). o.code) told)
  told_ends c bound (Some name) own (plan, there, feasible, is) =
      check_plan c name _ (ap plan_of asked ∙ own) there (record { feasible = λ f. ap (λ (o : Outcome). o.code) is; infeasible = λ none. absurd (none feasible) })

  pub check_status : IsOutcome tells held command outcome → CheckEnds held words (reading whole) outcome.code
  check_status (usage, is) = absurd (cc (asked, is.asked))
  check_status (window, is) = absurd (cc (ap bad_window_of asked, is.asked))
  check_status (unread, is) = check_read is.instance _ is.asked is.read (code_of tells held command outcome unread is)
  check_status (optimal, is) = absurd (cc (asked, is.asked))
  check_status (no_plan, is) = absurd (cc (asked, is.asked))
  check_status (stopped, is) = absurd (cc (asked, is.asked))
  check_status (bounded, is) = absurd (cc (asked, is.asked))
  check_status (listed, is) = absurd (cc (asked, is.asked))
  check_status (made, is) = absurd (cc (asked, is.asked))
  check_status (tried_optimal, is) = absurd (cc (asked, is.asked))
  check_status (tried_none, is) = absurd (cc (asked, is.asked))
  check_status (tried_open, is) = absurd (cc (asked, is.asked))
  check_status (refused_proof, is) =
      let same : is.words ≡ words = cc (asked, is.asked) in
      check_read is.words.instance _ (ap instance_of is.asked) is.read
      (check_proof (rule_case is.station) _ (subst (λ (w : CheckView). IsProof tells held w.proof (rule_case is.station) (Err is.refusal)) same is.proof_read) (code_of tells held command outcome refused_proof is))
  check_status (checked, is) =
      let same : is.words ≡ words = cc (asked, is.asked) in
      check_read is.words.instance _ (ap instance_of is.asked) is.read
      (check_proof (rule_case is.station) _ (subst (λ (w : CheckView). IsProof tells held w.proof (rule_case is.station) (Ok is.bound)) same is.proof_read)
      (told_ends (rule_case is.station) is.bound words.plan refl (subst (λ (w : CheckView). IsBoundTold tells held w.plan (rule_case is.station) is.bound outcome) same is.told)))
  check_status (refused_plan, is) =
      let before = accepted_before (rule_case is.station) is.proof in
      check_read is.instance _ is.asked is.read
      (check_proof (rule_case is.station) (Ok before.0) before.1 (check_plan (rule_case is.station) is.name _ is.named is.plan_read (code_of tells held command outcome refused_plan is)))
  check_status (conflict, is) =
      let before = accepted_before (rule_case is.station) is.proof in
      check_read is.instance _ is.asked is.read
      (check_proof (rule_case is.station) (Ok before.0) before.1 (check_plan (rule_case is.station) is.name _ is.named is.plan_read
      (record { feasible = λ feasible. absurd (is.infeasible feasible); infeasible = λ none. code_of tells held command outcome conflict is })))
  check_status (reported, is) = absurd (asked_no_check command words is.asked asked is.words)

module _ (tells : Bool) (held : Held) (command : Option CommandView) (instance whole : List ℕ) (outcome : Outcome) (asked : command ≡ Some (bound_all instance)) (holds : held instance ≡ Some whole) where
  bound_read : (own : List ℕ) (is : Reading) → instance_of command ≡ Some own → IsInstance tells held own is → ListingEnds is outcome.code → ListingEnds (reading whole) outcome.code
  bound_read own is at there ends =
      subst (λ (r : Reading). ListingEnds r outcome.code) (sym (read_as tells held command instance own whole is holds (ap instance_of asked) at there)) ends

  pub bound_status : IsOutcome tells held command outcome → ListingEnds (reading whole) outcome.code
  bound_status (usage, is) = absurd (cc (asked, is.asked))
  bound_status (window, is) = absurd (cc (ap bad_window_of asked, is.asked))
  bound_status (unread, is) = bound_read is.instance _ is.asked is.read (code_of tells held command outcome unread is)
  bound_status (optimal, is) = absurd (cc (asked, is.asked))
  bound_status (no_plan, is) = absurd (cc (asked, is.asked))
  bound_status (stopped, is) = absurd (cc (asked, is.asked))
  bound_status (bounded, is) = bound_read is.instance _ (ap instance_of is.asked) is.read (code_of tells held command outcome bounded is)
  bound_status (listed, is) = absurd (cc (asked, is.asked))
  bound_status (made, is) = absurd (cc (asked, is.asked))
  bound_status (tried_optimal, is) = absurd (cc (asked, is.asked))
  bound_status (tried_none, is) = absurd (cc (asked, is.asked))
  bound_status (tried_open, is) = absurd (cc (asked, is.asked))
  bound_status (refused_proof, is) = absurd (cc (asked, is.asked))
  bound_status (checked, is) = absurd (cc (asked, is.asked))
  bound_status (refused_plan, is) = absurd (cc (ap plan_of asked, is.named))
  bound_status (conflict, is) = absurd (cc (ap plan_of asked, is.named))
  bound_status (reported, is) = absurd (asked_no_bound command instance is.asked asked is.words)

module _ (tells : Bool) (held : Held) (command : Option CommandView) (instance whole : List ℕ) (outcome : Outcome) (asked : command ≡ Some (patterns instance)) (holds : held instance ≡ Some whole) where
  listing_read : (own : List ℕ) (is : Reading) → instance_of command ≡ Some own → IsInstance tells held own is → ListingEnds is outcome.code → ListingEnds (reading whole) outcome.code
  listing_read own is at there ends =
      subst (λ (r : Reading). ListingEnds r outcome.code) (sym (read_as tells held command instance own whole is holds (ap instance_of asked) at there)) ends

  pub listing_status : IsOutcome tells held command outcome → ListingEnds (reading whole) outcome.code
  listing_status (usage, is) = absurd (cc (asked, is.asked))
  listing_status (window, is) = absurd (cc (ap bad_window_of asked, is.asked))
  listing_status (unread, is) = listing_read is.instance _ is.asked is.read (code_of tells held command outcome unread is)
  listing_status (optimal, is) = absurd (cc (asked, is.asked))
  listing_status (no_plan, is) = absurd (cc (asked, is.asked))
  listing_status (stopped, is) = absurd (cc (asked, is.asked))
  listing_status (bounded, is) = absurd (cc (asked, is.asked))
  listing_status (listed, is) = listing_read is.instance _ (ap instance_of is.asked) is.read (code_of tells held command outcome listed is)
  listing_status (made, is) = absurd (cc (asked, is.asked))
  listing_status (tried_optimal, is) = absurd (cc (asked, is.asked))
  listing_status (tried_none, is) = absurd (cc (asked, is.asked))
  listing_status (tried_open, is) = absurd (cc (asked, is.asked))
  listing_status (refused_proof, is) = absurd (cc (asked, is.asked))
  listing_status (checked, is) = absurd (cc (asked, is.asked))
  listing_status (refused_plan, is) = absurd (cc (ap plan_of asked, is.named))
  listing_status (conflict, is) = absurd (cc (ap plan_of asked, is.named))
  listing_status (reported, is) = absurd (asked_no_patterns command instance is.asked asked is.words)

module _ (tells : Bool) (held : Held) (command : Option CommandView) (asked : AskedView) (whole : List ℕ) (outcome : Outcome) (words : asked_of command ≡ Some asked) (holds : held asked.instance ≡ Some whole) where
  report_read : (instance : List ℕ) (is : Reading) → instance_of command ≡ Some instance → IsInstance tells held instance is → ReportEnds held asked.plan is outcome.code → ReportEnds held asked.plan (reading whole) outcome.code
  report_read instance is own there ends =
      subst (λ (r : Reading). ReportEnds held asked.plan r outcome.code) (sym (read_as tells held command asked.instance instance whole is holds (asked_instance command asked words) own there)) ends

  report_plan : (c : CaseRecord) (name : List ℕ) (is : PlanReading) → plan_of command ≡ Some name → IsPlan tells held name c is → PlanEnds c is outcome.code
      → (bytes : List ℕ) → held asked.plan ≡ Some bytes → PlanEnds c (plan_reading c bytes) outcome.code
  report_plan c name is named there ends bytes known =
      subst (λ (r : PlanReading). PlanEnds c r outcome.code) (sym (plan_as tells held command asked.plan name bytes c is known (asked_plan command asked words) named there)) ends

  pub report_status : IsOutcome tells held command outcome → ReportEnds held asked.plan (reading whole) outcome.code
  report_status (usage, is) = absurd (cc (words, ap asked_of is.asked))
  report_status (window, is) = absurd (asked_no_window command asked is.window words is.asked)
  report_status (unread, is) = report_read is.instance _ is.asked is.read (code_of tells held command outcome unread is)
  report_status (optimal, is) = absurd (asked_no_solve command is.words asked is.asked words)
  report_status (no_plan, is) = absurd (asked_no_solve command is.words asked is.asked words)
  report_status (stopped, is) = absurd (asked_no_solve command is.words asked is.asked words)
  report_status (bounded, is) = absurd (asked_no_bound command is.instance asked is.asked words)
  report_status (listed, is) = absurd (asked_no_patterns command is.instance asked is.asked words)
  report_status (made, is) = absurd (asked_no_make command is.words asked is.asked words)
  report_status (tried_optimal, is) = absurd (asked_no_trial command is.words asked is.asked words)
  report_status (tried_none, is) = absurd (asked_no_trial command is.words asked is.asked words)
  report_status (tried_open, is) = absurd (asked_no_trial command is.words asked is.asked words)
  report_status (refused_proof, is) = absurd (asked_no_check command is.words asked is.asked words)
  report_status (checked, is) = absurd (asked_no_check command is.words asked is.asked words)
  report_status (refused_plan, is) =
      report_read is.instance _ is.asked is.read (report_plan (rule_case is.station) is.name _ is.named is.plan_read (code_of tells held command outcome refused_plan is))
  report_status (conflict, is) =
      report_read is.instance _ is.asked is.read (report_plan (rule_case is.station) is.name _ is.named is.plan_read
      (record { feasible = λ feasible. absurd (is.infeasible feasible); infeasible = λ none. code_of tells held command outcome conflict is }))
  report_status (reported, is) =
      report_read is.asked.instance _ (asked_instance command is.asked is.words) is.read (report_plan (rule_case is.station) is.asked.plan _ (asked_plan command is.asked is.words) is.plan_read
      (record { feasible = λ feasible. code_of tells held command outcome reported is; infeasible = λ none. absurd (none is.feasible) }))
