-- The statuses of commands where no call failed and memory was found.
use Rattle.std.specs.Prelude.{◌≡◌, ◌⊎◌, ℕ, ◌<◌, List, [], ◌∷◌, Option, None, Some, Result, Ok, Err}
use Rattle.command_words.specs.Command.{CommandView, CheckView, solve, check, cost, bound_all, patterns, platforms, paths, make, trial}
use Rattle.shelf.specs.Outside.{Same, Rose}
use Rattle.station_reader.specs.Reading.{Reading, taken, refused}
use Rattle.pair_prices.specs.Case.{CaseRecord, rule_case}
use Rattle.pair_prices.specs.Plan.{IsFeasible}
use Rattle.plan_cost.specs.PlanReading.{PlanReading, taken as plan_taken, refused as plan_refused, plan_reading}
use Rattle.leaf_bounds.specs.declared.tree.Bound.{Bound}
use Rattle.proof_rules.specs.declared.refused.ProofRefused.{ProofRefused}
use Rattle.proof_rules.specs.Verdict.{proof_reading}
use Rattle.branching.specs.Answer.{split_bound}
use Rattle.platform_cli.specs.Instance.{Held}
use Rattle.platform_cli.specs.Solve.{HasNoPlan}

-- No call on the shelf or the sink has failed, by their counts.
pub record NoCallFailed (reads_before reads_now writes_before writes_now : List ℕ → ℕ) (puts_before puts_now : ℕ) : Type 0 where
  pub reads : Same reads_before reads_now
  pub writes : Same writes_before writes_now
  pub puts : Rose puts_before puts_now → ⊥

-- the statuses that a command may end with
abbrev pub statuses : Option CommandView → List ℕ
statuses None = 2 ∷ []
statuses (Some (solve words)) = 0 ∷ 3 ∷ 10 ∷ 11 ∷ []
statuses (Some (check words)) = 0 ∷ 3 ∷ 4 ∷ 5 ∷ 9 ∷ []
statuses (Some (cost instance plan)) = 0 ∷ 3 ∷ 4 ∷ 9 ∷ []
statuses (Some (bound_all instance)) = 0 ∷ 3 ∷ []
statuses (Some (patterns instance)) = 0 ∷ 3 ∷ []
statuses (Some (platforms chart)) = 0 ∷ 3 ∷ 4 ∷ 9 ∷ 12 ∷ []
statuses (Some (paths chart)) = 0 ∷ 3 ∷ 4 ∷ 9 ∷ 12 ∷ []
statuses (Some (make words)) = 0 ∷ []
statuses (Some (trial words)) = 0 ∷ 10 ∷ 11 ∷ []

-- a search of a station: where some plan is feasible 0, and where none is 10; or, with fewer splits than decide every station
-- like it, 11
pub record SearchEnds (c : CaseRecord) (splits status : ℕ) : Type 0 where
  pub some : (plan : List ℕ) → IsFeasible c plan → (status ≡ 0) ⊎ ((status ≡ 11) × (splits < split_bound c))
  pub none : HasNoPlan c → (status ≡ 10) ⊎ ((status ≡ 11) × (splits < split_bound c))

-- `solve` on an instance: 3 where it is refused
abbrev pub SolveEnds : ℕ → Reading → ℕ → Type 0
SolveEnds splits (refused kind place) status = status ≡ 3
SolveEnds splits (taken station) status = SearchEnds (rule_case station) splits status

-- `bound` and `patterns` on an instance: 3 where it is refused, and 0 otherwise
abbrev pub ListingEnds : Reading → ℕ → Type 0
ListingEnds (refused kind place) status = status ≡ 3
ListingEnds (taken station) status = status ≡ 0

-- a plan that is taken: 0 where it is feasible, and 9 where it isn't
pub record VerdictEnds (c : CaseRecord) (plan : List ℕ) (status : ℕ) : Type 0 where
  pub feasible : IsFeasible c plan → status ≡ 0
  pub infeasible : (IsFeasible c plan → ⊥) → status ≡ 9

-- a plan's text: 4 where it is refused
abbrev pub PlanEnds : CaseRecord → PlanReading → ℕ → Type 0
PlanEnds c (plan_refused refusal) status = status ≡ 4
PlanEnds c (plan_taken plan) status = VerdictEnds c plan status

-- a report on a plan: 3 where the instance is refused, and otherwise as the plan's text says
abbrev pub ReportEnds : Held → List ℕ → Reading → ℕ → Type 0
ReportEnds held plan (refused kind place) status = status ≡ 3
ReportEnds held plan (taken station) status =
    (bytes : List ℕ) → held plan ≡ Some bytes → PlanEnds (rule_case station) (plan_reading (rule_case station) bytes) status

-- a plan beside a proof, where one is named
abbrev pub BesideEnds : Held → CaseRecord → Option (List ℕ) → ℕ → Type 0
BesideEnds held c None status = status ≡ 0
BesideEnds held c (Some plan) status = (bytes : List ℕ) → held plan ≡ Some bytes → PlanEnds c (plan_reading c bytes) status

-- a proof's text: 5 where it is refused
abbrev pub ProofEnds : Held → CaseRecord → Option (List ℕ) → Result Bound ProofRefused → ℕ → Type 0
ProofEnds held c plan (Err refusal) status = status ≡ 5
ProofEnds held c plan (Ok bound) status = BesideEnds held c plan status

-- `check`: 3 where the instance is refused, and otherwise as the proof's text says, and the plan's
abbrev pub CheckEnds : Held → CheckView → Reading → ℕ → Type 0
CheckEnds held words (refused kind place) status = status ≡ 3
CheckEnds held words (taken station) status =
    (bytes : List ℕ) → held words.proof ≡ Some bytes → ProofEnds held (rule_case station) words.plan (proof_reading (rule_case station) bytes) status
