-- What a run promises.
use Rattle.std.specs.Prelude.{◌≡◌, ◌≢◌, ◌⊎◌, ℕ, ◌<◌, Bool, List, Contains, Option, None, Some}
use Rattle.command_words.specs.Command.{CommandView, CheckView, GeneratedView, SolveView, bound_all, check, make, patterns, solve, trial}
use Rattle.shelf.specs.Outside.{Rose}
use Rattle.station_reader.specs.Reading.{reading}
use Rattle.platform_cli.specs.declared.asked.Window.{Window}
use Rattle.platform_cli.specs.Asked.{AskedView, Reads, Writes, asked_of, bad_window_of}
use Rattle.platform_cli.specs.Exact.{NoCallFailed, SearchEnds, SolveEnds, CheckEnds, ListingEnds, ReportEnds, statuses}
use Rattle.platform_cli.specs.Instance.{Held}
use Rattle.platform_cli.specs.Outcome as answers
use Rattle.platform_cli.specs.Outcome.{Answer, IsAnswer}
use Rattle.platform_cli.specs.Run.{Faults, IsCut, IsCutOff, IsDone, IsFinished, IsNothing, IsPlanFile, IsProofKept, WasGiven}
use Rattle.platform_cli.specs.Trial.{trial_case, trial_splits}

-- The files and the output at one moment: what each name holds and what was put, where they tell, and how often a read of each
-- name, a write of it, and a put have failed.
pub record Outside : Type 0 where
  pub held : Held
  pub written : Option (List ℕ)
  pub read_faults : Faults
  pub write_faults : Faults
  pub put_faults : ℕ

-- A run: whether its shelf tells what it holds, the command that the words are, the files and the output before it and after it,
-- and its status.
pub record RunRecord : Type 0 where
  pub tells : Bool
  pub command : Option CommandView
  pub before : Outside
  pub after : Outside
  pub status : ℕ

-- The run gave this answer whole, and nothing else.
abbrev pub Gives : RunRecord → Answer → Type 0
Gives run answer = WasGiven (IsAnswer answer run.tells run.before.held run.command) run.tells run.before.held run.after.held run.before.written run.after.written

-- The run gave an answer of its command whole, and ended with its status.
abbrev pub GivesWhole : RunRecord → Type 0
GivesWhole run = IsDone run.tells run.command run.status run.before.held run.after.held run.before.written run.after.written

-- The run gave an answer of its command in part.
abbrev pub GivesPart : RunRecord → Type 0
GivesPart run = IsCut run.tells run.command run.before.held run.after.held run.before.write_faults run.after.write_faults run.before.written run.after.written

-- The run gave nothing.
abbrev pub GivesNothing : RunRecord → Type 0
GivesNothing run = IsNothing run.before.held run.after.held run.before.written run.after.written

-- A read of an input of the command failed in this run.
abbrev pub ReadFailed : RunRecord → Type 0
ReadFailed run = (name : List ℕ) × Reads run.tells run.before.held run.command name × (run.before.read_faults name < run.after.read_faults name)

-- A write of a file that the words name failed in this run.
abbrev pub WriteFailed : RunRecord → Type 0
WriteFailed run = (name : List ℕ) × Writes run.command name × (run.before.write_faults name < run.after.write_faults name)

-- A put failed in this run, or the count of failed puts stands at its last value.
abbrev pub PutFailed : RunRecord → Type 0
PutFailed run = Rose run.before.put_faults run.after.put_faults

-- No call failed in this run, and memory was found.
pub record NothingFailed (run : RunRecord) : Type 0 where
  pub calls : NoCallFailed run.before.read_faults run.after.read_faults run.before.write_faults run.after.write_faults run.before.put_faults run.after.put_faults
  pub memory : run.status ≢ 8

-- The plan's file holds what it held, or the whole text of a feasible plan of the instance, or a write of it failed in this run.
abbrev pub KeepsPlanFile : RunRecord → List ℕ → List ℕ → Type 0
KeepsPlanFile run instance name = IsPlanFile run.tells run.before.held run.after.held run.before.write_faults run.after.write_faults instance name

-- The proof's file holds what it held, or the whole text of an accepted proof of the instance, or a write of it failed in this run.
abbrev pub KeepsProofFile : RunRecord → List ℕ → List ℕ → Type 0
KeepsProofFile run instance name = IsProofKept run.tells run.before.held run.after.held run.before.write_faults run.after.write_faults instance name

-- The promises. Each answer's record says what was read, what is so, and what was given.
pub record KeepsPromises (run : RunRecord) : Type 0 where
  -- Status 0 of `solve`: what the shelf holds under INSTANCE is a station, the report names a feasible plan of it
  -- at the printed cost, no feasible plan costs less, the plan's FILE has its text, and the proof's FILE a proof that is
  -- accepted with the cost as its bound. The root line is the value of a leaf for all plans, rounded up at most the cost, and
  -- where it says exact the root value of the station.
  pub optimal : (words : SolveView) → run.command ≡ Some (solve words) → run.status ≡ 0 → Gives run answers.optimal
  -- Status 10: it is `solve` or `trial`, of a station without a feasible plan. The report says so, and the proof's FILE has a proof
  -- that is accepted with no plan. The root line is as above.
  pub no_plan : run.status ≡ 10 → Gives run answers.no_plan ⊎ Gives run answers.tried_none
  -- Status 11: it is `solve` or `trial`, and the stated splits are spent, of `trial` 50: a tree that stands has just as many, at
  -- each of its splits the least prices sum to at most its bound, more splits could decide the station, and the bound is below the
  -- printed cost. The report names the best known plan, which costs at most what the greedy plan costs, or none where there is no
  -- greedy plan, and the tree's bound, which every feasible plan keeps to. The proof's FILE has that tree. The root line is as
  -- above, rounded up at most the bound, and it is below TOP and doesn't reach the greedy plan's cost.
  pub stopped : run.status ≡ 11 → Gives run answers.stopped ⊎ Gives run answers.tried_open
  -- Status 0 of `check`: whoever wrote the proof, every feasible plan keeps to the printed bound, and there is none where no
  -- plan is printed. A plan's cost is printed beside it, and `shown optimal` exactly where it is the bound.
  pub checked : (words : CheckView) → run.command ≡ Some (check words) → run.status ≡ 0 → Gives run answers.checked
  -- Status 0 of `bound`: what the shelf holds under INSTANCE is a station, and a root line of it is given: the value of a leaf for all
  -- plans, and the root value of the station unless it is weak, with what that says of the cost of plans.
  pub bounded : (instance : List ℕ) → run.command ≡ Some (bound_all instance) → run.status ≡ 0 → Gives run answers.bounded
  -- Status 0 of `patterns`: what the shelf holds under INSTANCE is a station, and its patterns are listed.
  pub listed : (instance : List ℕ) → run.command ≡ Some (patterns instance) → run.status ≡ 0 → Gives run answers.listed
  -- Status 0 of `make`: the station that the number makes is given as text.
  pub made : (words : GeneratedView) → run.command ≡ Some (make words) → run.status ≡ 0 → Gives run answers.made
  -- Status 0 of `trial`: the station that the number makes has a plan of the printed cost, no feasible plan costs less, and a proof
  -- is accepted with that bound. The root line is as above.
  pub tried : (words : GeneratedView) → run.command ≡ Some (trial words) → run.status ≡ 0 → Gives run answers.tried_optimal
  -- Status 0 of `cost`, `platforms` and `paths`: the plan's text is a plan of the station, it is feasible, and the
  -- report is its costs or its chart.
  pub reported : (asked : AskedView) → asked_of run.command ≡ Some asked → run.status ≡ 0 → Gives run answers.reported
  -- Status 3: the instance is read as the printed refusal at the printed place.
  pub instance_refused : run.status ≡ 3 → Gives run answers.unread
  -- Status 4: the plan's text is refused with the printed kind at the printed record.
  pub plan_refused : run.status ≡ 4 → Gives run answers.refused_plan
  -- Status 5: the proof's text is refused with the printed kind at the printed record.
  pub proof_refused : run.status ≡ 5 → Gives run answers.refused_proof
  -- Status 9: the printed pair is the first of the plan that is forbidden.
  pub conflict : run.status ≡ 9 → Gives run answers.conflict
  -- Status 12 comes exactly where no chart has the minutes of the words, but for a fault while the line is put.
  pub window : run.status ≡ 12 → Gives run answers.window
  pub no_window : (window : Window) → bad_window_of run.command ≡ Some window → (run.status ≡ 12) ⊎ IsCutOff run.status
  -- Status 2 comes exactly where the words are no command, but for a fault while the usage text is put.
  pub usage : run.status ≡ 2 → Gives run answers.usage
  pub no_command : run.command ≡ None → (run.status ≡ 2) ⊎ IsCutOff run.status
  -- Status 6 comes only where a read of an input failed, of the proof and the plan only where the instance is a station, and then
  -- nothing was given.
  pub read_fault : run.status ≡ 6 → ReadFailed run
  pub nothing : run.status ≡ 6 → GivesNothing run
  -- Status 7 comes only where a write of a named file failed, or a put.
  pub write_fault : run.status ≡ 7 → WriteFailed run ⊎ PutFailed run
  -- With every status but 6, 7 and 8 an answer of the command was given whole: its status, its text and its files.
  pub whole : IsFinished run.status → GivesWhole run
  -- With 7 and 8 nothing was given, or an answer in part. A line was put only where the plan's FILE and the proof's FILE hold
  -- their new text, and the proof's FILE has its new text only where the plan's has.
  pub cut : IsCutOff run.status → GivesNothing run ⊎ GivesPart run
  -- No name changes but the plan's FILE and the proof's FILE of `solve`. The first holds what it held, or the whole text of a
  -- feasible plan, the second what it held, or the whole text of a proof that is accepted; or a write of it has failed.
  pub unchanged : (name : List ℕ) → (Writes run.command name → ⊥) → run.after.held name ≡ run.before.held name
  pub plan_file : (words : SolveView) (name : List ℕ) → run.command ≡ Some (solve words) → words.plan ≡ Some name → KeepsPlanFile run words.instance name
  pub proof_file : (words : SolveView) (name : List ℕ) → run.command ≡ Some (solve words) → words.proof ≡ Some name → KeepsProofFile run words.instance name
  -- Where nothing failed a command ends with one of its own statuses, and what the shelf holds says which.
  pub complete : NothingFailed run → Contains (statuses run.command) run.status
  pub solve_exact : (words : SolveView) (bytes : List ℕ) → run.command ≡ Some (solve words) → run.before.held words.instance ≡ Some bytes
      → NothingFailed run → SolveEnds words.splits (reading bytes) run.status
  pub trial_exact : (words : GeneratedView) → run.command ≡ Some (trial words) → NothingFailed run → SearchEnds (trial_case words) trial_splits run.status
  pub check_exact : (words : CheckView) (bytes : List ℕ) → run.command ≡ Some (check words) → run.before.held words.instance ≡ Some bytes
      → NothingFailed run → CheckEnds run.before.held words (reading bytes) run.status
  pub bound_exact : (instance bytes : List ℕ) → run.command ≡ Some (bound_all instance) → run.before.held instance ≡ Some bytes
      → NothingFailed run → ListingEnds (reading bytes) run.status
  pub patterns_exact : (instance bytes : List ℕ) → run.command ≡ Some (patterns instance) → run.before.held instance ≡ Some bytes
      → NothingFailed run → ListingEnds (reading bytes) run.status
  pub report_exact : (asked : AskedView) (bytes : List ℕ) → asked_of run.command ≡ Some asked → run.before.held asked.instance ≡ Some bytes
      → NothingFailed run → ReportEnds run.before.held asked.plan (reading bytes) run.status
