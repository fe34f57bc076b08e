-- What `trial` gives for a station that a number makes.
use Rattle.std.specs.Prelude.{◌≡◌, ◌⊎◌, ℕ, List, Option, None, Some, ℤ, pos, codes}
use Rattle.pair_prices.specs.Case.{CaseRecord, rule_case}
use Rattle.pair_prices.specs.Plan.{IsFeasible, cost}
use Rattle.leaf_bounds.specs.declared.leaf.Leaf.{Leaf}
use Rattle.leaf_bounds.specs.declared.tree.Bound.{Bound}
use Rattle.leaf_bounds.specs.declared.tree.Bound.TheVariants.{AtLeast, Nothing}
use Rattle.leaf_bounds.specs.Laws.{KeepsTo}
use Rattle.leaf_bounds.specs.Tree.{SplitTree}
use Rattle.branching.specs.declared.found.Root.{Root}
use Rattle.branching.specs.RootLine.{IsTopOrMore, ReachesGreedy}
use Rattle.proof_file.specs.Accepted.{IsAccepted}
use Rattle.station_gen.specs.Made.{made_station}
use Rattle.command_words.specs.Command.{GeneratedView}
use Rattle.platform_cli.specs.Given.{Outcome, text_outcome}
use Rattle.platform_cli.specs.Report.{trial_text}
use Rattle.platform_cli.specs.Solve.{HasNoPlan, IsLeastPlan, IsRootLine, IsStopped, IsUndecided}

-- A trial may split so often.
abbrev pub trial_splits : ℕ
trial_splits = 50

-- the station that the numbers make
abbrev pub trial_case : GeneratedView → CaseRecord
trial_case words = rule_case (made_station words.number words.trains)

-- A text is accepted with that bound.
abbrev pub IsProvable : CaseRecord → Bound → Type 0
IsProvable c bound = (text : List ℕ) × IsAccepted c bound text

-- the cost of a plan, where one is known
abbrev pub known_price : CaseRecord → Option (List ℕ) → Option ℤ
known_price c None = None
known_price c (Some plan) = Some (pos (cost c plan))

-- Some plan is feasible and none costs less. Its cost is given, and as the bound of a proof.
pub record IsOptimalTrial (c : CaseRecord) (trains : ℕ) (outcome : Outcome) : Type 0 where
  pub plan : List ℕ
  pub least : IsLeastPlan c plan
  pub root : Root
  pub root_line : IsRootLine c (AtLeast (pos (cost c plan))) root
  pub below_top : IsTopOrMore c root.value → ⊥
  pub provable : IsProvable c (AtLeast (pos (cost c plan)))
  pub is : outcome ≡ text_outcome 0 (trial_text trains (codes "Optimal") (Some (pos (cost c plan))) (AtLeast (pos (cost c plan))) root)

-- No plan is feasible. That is said.
pub record IsNoPlanTrial (c : CaseRecord) (trains : ℕ) (outcome : Outcome) : Type 0 where
  pub none : HasNoPlan c
  pub root : Root
  pub root_line : IsRootLine c Nothing root
  pub unreached : ReachesGreedy c root.value → ⊥
  pub provable : IsProvable c Nothing
  pub is : outcome ≡ text_outcome 10 (trial_text trains (codes "NoPlan") None Nothing root)

-- The splits are spent. The cost of the plan that is known is given, and the bound that a tree shows.
pub record IsOpenTrial (c : CaseRecord) (trains : ℕ) (outcome : Outcome) : Type 0 where
  pub known : Option (List ℕ)
  pub bound : ℤ
  pub tree : SplitTree Leaf
  pub stopped : IsStopped c trial_splits known bound tree
  pub bounds : (plan : List ℕ) → IsFeasible c plan → KeepsTo c plan (AtLeast bound)
  pub root : Root
  pub root_line : IsRootLine c (AtLeast bound) root
  pub undecided : IsUndecided c root
  pub provable : IsProvable c (AtLeast bound)
  pub is : outcome ≡ text_outcome 11 (trial_text trains (codes "Open") (known_price c known) (AtLeast bound) root)

-- what a trial gives
abbrev pub IsTrial : CaseRecord → ℕ → Outcome → Type 0
IsTrial c trains outcome = IsOptimalTrial c trains outcome ⊎ (IsNoPlanTrial c trains outcome ⊎ IsOpenTrial c trains outcome)
