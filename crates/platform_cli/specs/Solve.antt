-- What `solve` gives for a station.
use Rattle.std.specs.Prelude.{◌≡◌, ◌⊎◌, ◌++◌, ℕ, ◌<◌, ◌≤◌, List, [], ◌∷◌, Option, None, Some, ℤ, pos, ◌<ℤ◌}
use Rattle.patterns.specs.Allowed.{full_lists}
use Rattle.pair_prices.specs.Case.{CaseRecord}
use Rattle.pair_prices.specs.Plan.{IsFeasible, cost}
use Rattle.plan_cost.specs.PlanText.{plan_text}
use Rattle.leaf_bounds.specs.declared.leaf.Leaf.{Leaf}
use Rattle.leaf_bounds.specs.declared.tree.Bound.{Bound}
use Rattle.leaf_bounds.specs.declared.tree.Bound.TheVariants.{AtLeast, Nothing}
use Rattle.leaf_bounds.specs.declared.tree.Node.{Node}
use Rattle.leaf_bounds.specs.Laws.{KeepsTo}
use Rattle.leaf_bounds.specs.Shown.{IsTreeOf, TreeStands, bound_of_tree}
use Rattle.leaf_bounds.specs.Tree.{SplitTree, split_count}
use Rattle.primal_heuristic.specs.Greedy.{greedy_plan}
use Rattle.branching.specs.Answer.{split_bound}
use Rattle.branching.specs.Bounds.{EachSplitIsWithin, IsAtLeast}
use Rattle.branching.specs.declared.found.Root.{Root}
use Rattle.branching.specs.RootLine.{rounded_up, IsRoot, IsTopOrMore, ReachesGreedy}
use Rattle.shared_trees.specs.Written.{IsWrittenOf}
use Rattle.proof_file.specs.Accepted.{IsAccepted}
use Rattle.command_words.specs.Command.{SolveView}
use Rattle.platform_cli.specs.Given.{NewFile, Outcome}
use Rattle.platform_cli.specs.Report.{optimal_text, no_plan_text, open_text}

-- The plan is feasible, and no feasible plan costs less.
pub record IsLeastPlan (c : CaseRecord) (plan : List ℕ) : Type 0 where
  pub feasible : IsFeasible c plan
  pub least : (other : List ℕ) → IsFeasible c other → cost c plan ≤ cost c other

-- No plan is feasible.
abbrev pub HasNoPlan : CaseRecord → Type 0
HasNoPlan c = (plan : List ℕ) → IsFeasible c plan → ⊥

-- A plan that is known where the splits are spent: it is feasible, costs more than the bound, and at most what the greedy plan
-- costs. Only where there is no greedy plan none is known.
abbrev pub IsKnownAbove : CaseRecord → ℤ → Option (List ℕ) → Type 0
IsKnownAbove c bound None = greedy_plan c ≡ None
IsKnownAbove c bound (Some plan) =
    IsFeasible c plan × (bound <ℤ pos (cost c plan)) × ((greedy : List ℕ) → greedy_plan c ≡ Some greedy → cost c plan ≤ cost c greedy)

-- The splits are spent: a tree that stands for the full lists has just as many and that bound, at each of its splits the least
-- prices in the lists there sum to at most the bound, and more splits could decide the station.
pub record IsStopped (c : CaseRecord) (splits : ℕ) (known : Option (List ℕ)) (bound : ℤ) (tree : SplitTree Leaf) : Type 0 where
  pub stands : TreeStands c (full_lists c.book) tree
  pub value : bound_of_tree c (full_lists c.book) tree ≡ AtLeast bound
  pub spent : split_count tree ≡ splits
  pub cheap : EachSplitIsWithin c bound (full_lists c.book) tree
  pub more : splits < split_bound c
  pub plan : IsKnownAbove c bound known

-- the file that gets the plan, where one is named
abbrev pub plan_files : Option (List ℕ) → List ℕ → List NewFile
plan_files None plan = []
plan_files (Some name) plan = record { name = name; bytes = plan_text plan } ∷ []

-- No plan's file is written where no plan is known.
abbrev pub known_files : Option (List ℕ) → Option (List ℕ) → List NewFile
known_files file None = []
known_files file (Some plan) = plan_files file plan

-- The text is accepted with that bound, and its shared tree, each leaf replaced by its expansion over the lists at that leaf, is
-- this tree.
pub record IsWrittenProof (c : CaseRecord) (bound : Bound) (tree : SplitTree Leaf) (text : List ℕ) : Type 0 where
  pub accepted : IsAccepted c bound text
  pub nodes : List Node
  pub order : IsTreeOf nodes tree
  pub written : IsWrittenOf c nodes bound text

-- Where a proof's file is named it gets such a text.
abbrev pub IsProofFile : CaseRecord → Bound → SplitTree Leaf → Option (List ℕ) → List NewFile → Type 0
IsProofFile c bound tree None files = files ≡ []
IsProofFile c bound tree (Some name) files =
    (text : List ℕ) × IsWrittenProof c bound tree text × (files ≡ record { name = name; bytes = text } ∷ [])

-- The root line of a search whose tree has that bound: it is the value of a leaf for all plans, and the root value of the station
-- unless it is weak, and the bound isn't below it, rounded up.
pub record IsRootLine (c : CaseRecord) (bound : Bound) (root : Root) : Type 0 where
  pub line : IsRoot c root
  pub above : IsAtLeast (rounded_up root.value) bound

-- The root line decides nothing: it is below TOP, and rounded up it doesn't reach the cost of the greedy plan.
pub record IsUndecided (c : CaseRecord) (root : Root) : Type 0 where
  pub below_top : IsTopOrMore c root.value → ⊥
  pub unreached : ReachesGreedy c root.value → ⊥

-- The plan is feasible, and no feasible plan costs less. Its report is given, its text under the name of the plan's file, and a
-- proof with its cost as the bound under that of the proof's file.
pub record IsOptimalFor (c : CaseRecord) (words : SolveView) (outcome : Outcome) : Type 0 where
  pub plan : List ℕ
  pub least : IsLeastPlan c plan
  pub root : Root
  pub root_line : IsRootLine c (AtLeast (pos (cost c plan))) root
  pub below_top : IsTopOrMore c root.value → ⊥
  pub tree : SplitTree Leaf
  pub proofs : List NewFile
  pub proof : IsProofFile c (AtLeast (pos (cost c plan))) tree words.proof proofs
  pub is : outcome ≡ record { code = 0; text = optimal_text c plan root; files = plan_files words.plan plan ++ proofs }

-- No plan is feasible. That is said, and no plan's file is written. The proof's file gets a proof that there is no plan.
pub record IsNoPlanFor (c : CaseRecord) (words : SolveView) (outcome : Outcome) : Type 0 where
  pub none : HasNoPlan c
  pub root : Root
  pub root_line : IsRootLine c Nothing root
  pub unreached : ReachesGreedy c root.value → ⊥
  pub tree : SplitTree Leaf
  pub proofs : List NewFile
  pub proof : IsProofFile c Nothing tree words.proof proofs
  pub is : outcome ≡ record { code = 10; text = no_plan_text root; files = proofs }

-- The splits are spent. What is known is given: a plan, the bound that a tree shows, and that tree in the proof's file.
pub record IsOpenFor (c : CaseRecord) (words : SolveView) (outcome : Outcome) : Type 0 where
  pub known : Option (List ℕ)
  pub bound : ℤ
  pub tree : SplitTree Leaf
  pub stopped : IsStopped c words.splits known bound tree
  pub bounds : (plan : List ℕ) → IsFeasible c plan → KeepsTo c plan (AtLeast bound)
  pub root : Root
  pub root_line : IsRootLine c (AtLeast bound) root
  pub undecided : IsUndecided c root
  pub proofs : List NewFile
  pub proof : IsProofFile c (AtLeast bound) tree words.proof proofs
  pub is : outcome ≡ record { code = 11; text = open_text c known bound words.splits root; files = known_files words.plan known ++ proofs }

-- what a search gives
abbrev pub IsSolved : CaseRecord → SolveView → Outcome → Type 0
IsSolved c words outcome = IsOptimalFor c words outcome ⊎ (IsNoPlanFor c words outcome ⊎ IsOpenFor c words outcome)
