-- How a run leaves the shelf and the sink.
use Rattle.std.specs.Prelude.{◌≡◌, ◌≢◌, ◌⊎◌, ℕ, ◌<◌, Bool, List, ◌∷◌, ◌++◌, fold, map, Contains, if◌then◌else◌, None, Some, IfSome, IsSome, IsTrue, MatchOption}
use Rattle.std.specs.declared.option.Option.{Option}
use Rattle.std.specs.Str.{bytes_eq}
use Rattle.std.specs.Io.KnownBytes.{Appends, Keeps}
use Rattle.shelf.specs.Outside.{AppendsPrefix, Same}
use Rattle.command_words.specs.Command.{CommandView}
use Rattle.station.specs.Allowed.{StationRecord}
use Rattle.station_reader.specs.Reading.{taken}
use Rattle.pair_prices.specs.Case.{rule_case}
use Rattle.plan_cost.specs.PlanText.{plan_text}
use Rattle.pair_prices.specs.Plan.{IsFeasible}
use Rattle.leaf_bounds.specs.declared.tree.Bound.{Bound}
use Rattle.proof_file.specs.Accepted.{IsAccepted}
use Rattle.platform_cli.specs.Given.{NewFile, Outcome}
use Rattle.platform_cli.specs.Instance.{Held, IsInstance}
use Rattle.platform_cli.specs.Outcome.{IsOutcome}

-- how often a call on each name has failed
abbrev pub Faults : Type 0
Faults = List ℕ → ℕ

-- a status that is of no fault
pub record IsFinished (code : ℕ) : Type 0 where
  pub no_read_fault : code ≢ 6
  pub no_write_fault : code ≢ 7
  pub memory_found : code ≢ 8

-- one of the files has this name
abbrev pub IsNamed : List NewFile → List ℕ → Type 0
IsNamed files name = Contains (map (λ file. file.name) files) name

-- the bytes of the last of the files that has this name
abbrev pub last_bytes : List NewFile → List ℕ → Option (List ℕ)
last_bytes files name = fold (λ found file. if bytes_eq file.name name then Some file.bytes else found) None files

-- a name holds these bytes, where the shelf tells
pub record Now (tells : Bool) (held : Option (List ℕ)) (bytes : List ℕ) : Type 0 where
  pub same : IfSome held (λ known. known ≡ bytes)
  pub told : IsTrue tells → IsSome held

-- a name holds what the last file of this name has, or what it held where no file has this name
abbrev pub HoldsName : Bool → List NewFile → Held → Held → List ℕ → Type 0
HoldsName tells files old new name = MatchOption (last_bytes files name) (new name ≡ old name) (λ bytes. Now tells (new name) bytes)

-- each name holds what the last file of this name has, and the other names what they held
abbrev pub HoldsFiles : Bool → List NewFile → Held → Held → Type 0
HoldsFiles tells files old new = (name : List ℕ) → HoldsName tells files old new name

-- The files were written in their order up to one of them: those before it hold their new text, and every other name holds what
-- it held. What that one file holds is open only where a write of it has failed.
pub record StopsAtFile (tells : Bool) (files : List NewFile) (old new : Held) (faults_before faults_now : Faults) : Type 0 where
  pub written : List NewFile
  pub file : NewFile
  pub unwritten : List NewFile
  pub order : files ≡ written ++ file ∷ unwritten
  pub holds : (name : List ℕ) → HoldsName tells written old new name ⊎ ((name ≡ file.name) × (faults_before name < faults_now name))

-- all files hold their new text, and a front of the text was put
pub record GivesFront (tells : Bool) (outcome : Outcome) (old new : Held) (before now : Option (List ℕ)) : Type 0 where
  pub files : HoldsFiles tells outcome.files old new
  pub text : AppendsPrefix before now outcome.text

-- an outcome was given up to a point: up to one of its files, and nothing was put; or all of its files, and a front of its text
abbrev pub IsGivenInPart : Bool → Outcome → Held → Held → Faults → Faults → Option (List ℕ) → Option (List ℕ) → Type 0
IsGivenInPart tells outcome old new faults_before faults_now before now =
    (StopsAtFile tells outcome.files old new faults_before faults_now × Keeps before now) ⊎ GivesFront tells outcome old new before now

-- an outcome of this kind was given whole: its text was put, and its files were written
pub record WasGiven (Is : Outcome → Type 0) (tells : Bool) (old new : Held) (before now : Option (List ℕ)) : Type 0 where
  pub outcome : Outcome
  pub is : Is outcome
  pub text : Appends before now outcome.text
  pub files : HoldsFiles tells outcome.files old new

-- an outcome of the command was given whole, and the status is its
pub record IsDone (tells : Bool) (command : Option CommandView) (status : ℕ) (old new : Held) (before now : Option (List ℕ)) : Type 0 where
  pub outcome : Outcome
  pub is_outcome : IsOutcome tells old command outcome
  pub code : status ≡ outcome.code
  pub text : Appends before now outcome.text
  pub files : HoldsFiles tells outcome.files old new

-- An outcome of the command was given in part: something was put only where all of its files hold their new text, a file holds
-- its new text only where all before it do, and what was put is a front of its text.
pub record IsCut (tells : Bool) (command : Option CommandView) (old new : Held) (faults_before faults_now : Faults) (before now : Option (List ℕ)) : Type 0 where
  pub outcome : Outcome
  pub is_outcome : IsOutcome tells old command outcome
  pub given : IsGivenInPart tells outcome old new faults_before faults_now before now

-- nothing was given
pub record IsNothing (old new : Held) (before now : Option (List ℕ)) : Type 0 where
  pub held : Same old new
  pub put : Keeps before now

-- a status of a write fault, or of want of memory
abbrev pub IsCutOff : ℕ → Type 0
IsCutOff status = (status ≡ 7) ⊎ (status ≡ 8)

-- an outcome was given whole, or in part, or nothing
pub record IsEnded (tells : Bool) (command : Option CommandView) (status : ℕ) (old new : Held) (faults_before faults_now : Faults) (before now : Option (List ℕ)) : Type 0 where
  pub way :
      IsDone tells command status old new before now
      ⊎ ((IsCutOff status × IsCut tells command old new faults_before faults_now before now)
      ⊎ (((status ≡ 6) ⊎ IsCutOff status) × IsNothing old new before now))

-- a name holds the text of a feasible plan of the instance, where the shelf tells
pub record HoldsPlan (tells : Bool) (held : Held) (now : Option (List ℕ)) (instance : List ℕ) : Type 0 where
  pub station : StationRecord
  pub read : IsInstance tells held instance (taken station)
  pub plan : List ℕ
  pub feasible : IsFeasible (rule_case station) plan
  pub holds : Now tells now (plan_text plan)

-- a name holds a proof that is accepted for the instance, where the shelf tells
pub record HoldsProof (tells : Bool) (held : Held) (now : Option (List ℕ)) (instance : List ℕ) : Type 0 where
  pub station : StationRecord
  pub read : IsInstance tells held instance (taken station)
  pub bound : Bound
  pub text : List ℕ
  pub accepted : IsAccepted (rule_case station) bound text
  pub holds : Now tells now text

-- a name holds what it held, or what is said here, or a write of it has failed
abbrev pub IsOldOr : Type 0 → Held → Held → Faults → Faults → List ℕ → Type 0
IsOldOr Holds old new before now name = (new name ≡ old name) ⊎ (Holds ⊎ (before name < now name))

-- the plan's file holds what it held, or the text of a feasible plan, or a write of it has failed
abbrev pub IsPlanFile : Bool → Held → Held → Faults → Faults → List ℕ → List ℕ → Type 0
IsPlanFile tells old new before now instance name = IsOldOr (HoldsPlan tells old (new name) instance) old new before now name

-- the proof's file holds what it held, or a proof that is accepted, or a write of it has failed
abbrev pub IsProofKept : Bool → Held → Held → Faults → Faults → List ℕ → List ℕ → Type 0
IsProofKept tells old new before now instance name = IsOldOr (HoldsProof tells old (new name) instance) old new before now name
