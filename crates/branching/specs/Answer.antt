-- What the answers of the search say.
use Rattle.std.specs.Prelude.{◌≡◌, ℕ, ◌-◌, ◌^◌, ◌<◌, ◌≤◌, min, Bool, true, false, List, Option, Some, None, ℤ, pos, ◌<ℤ◌}
use Rattle.patterns.specs.Allowed.{full_lists}
use Rattle.pair_prices.specs.Case.{CaseRecord}
use Rattle.pair_prices.specs.Plan.{IsFeasible, cost}
use Rattle.leaf_bounds.specs.declared.leaf.Leaf.{Leaf}
use Rattle.leaf_bounds.specs.declared.tree.Node.{Node}
use Rattle.leaf_bounds.specs.declared.tree.Bound.TheVariants.{AtLeast, Nothing}
use Rattle.leaf_bounds.specs.Shown.{IsTreeOf, TreeStands, bound_of_tree}
use Rattle.leaf_bounds.specs.Tree.{SplitTree, plan_count, split_count}
use Rattle.branching.specs.declared.found.Best.{Best}
use Rattle.branching.specs.declared.found.Found.{Found}
use Rattle.branching.specs.declared.found.Found.TheVariants.{Optimal, NoPlan, Open}
use Rattle.branching.specs.declared.found.Priced.{Priced}
use Rattle.branching.specs.declared.found.Shown.{Shown}
use Rattle.branching.specs.declared.found.Stopped.{Stopped}
use Rattle.branching.specs.Bounds.{EachSplitIsWithin}
use Rattle.branching.specs.Known.{IsKnown}

-- How many splits decide a case at most: one less than there are plans of the full lists, where there are some. It is held at
-- the greatest number of 128 bits.
unfoldable pub split_bound : CaseRecord → ℕ
split_bound c = min (plan_count (full_lists c.book) - 1) (2 ^ 128 - 1)

-- The nodes are those of a tree that stands for the full lists and has at most so many splits.
pub record IsTreeWithin (c : CaseRecord) (splits : ℕ) (nodes : List Node) (tree : SplitTree Leaf) : Type 0 where
  pub is_tree : IsTreeOf nodes tree
  pub stands : TreeStands c (full_lists c.book) tree
  pub few : split_count tree ≤ splits

-- The plan is feasible, and its cost is the tree's bound.
pub record IsOptimal (c : CaseRecord) (splits : ℕ) (b : Best) : Type 0 where
  pub proof : SplitTree Leaf
  pub shown : IsTreeWithin c splits b.tree.nodes proof
  pub feasible : IsFeasible c b.plan.choice
  pub value : b.cost ≡ pos (cost c b.plan.choice)
  pub bound : bound_of_tree c (full_lists c.book) proof ≡ AtLeast b.cost

-- The tree's bound is `Nothing`.
pub record IsNoPlan (c : CaseRecord) (splits : ℕ) (s : Shown) : Type 0 where
  pub proof : SplitTree Leaf
  pub shown : IsTreeWithin c splits s.tree.nodes proof
  pub bound : bound_of_tree c (full_lists c.book) proof ≡ Nothing

-- the number is below the cost of the plan, if there is one
abbrev pub IsBelowPlan : ℤ → Option Priced → Type 0
IsBelowPlan n None = Unit {0}
IsBelowPlan n (Some p) = n <ℤ p.cost

-- The splits are spent. The tree has that many, each where the least prices sum to at most its bound; more could decide the
-- case; and the bound is below the cost of the plan, if one is known. A known plan costs at most what the greedy plan costs,
-- and only where there is no greedy plan none is known.
pub record IsOpen (c : CaseRecord) (splits : ℕ) (s : Stopped) : Type 0 where
  pub proof : SplitTree Leaf
  pub shown : IsTreeWithin c splits s.tree.nodes proof
  pub spent : split_count proof ≡ splits
  pub value : bound_of_tree c (full_lists c.book) proof ≡ AtLeast s.bound
  pub cheap : EachSplitIsWithin c s.bound (full_lists c.book) proof
  pub more : splits < split_bound c
  pub below : IsBelowPlan s.bound s.plan
  pub known : IsKnown c s.plan

abbrev pub AnswerIs : CaseRecord → ℕ → Found → Type 0
AnswerIs c splits (Optimal b) = IsOptimal c splits b
AnswerIs c splits (NoPlan s) = IsNoPlan c splits s
AnswerIs c splits (Open s) = IsOpen c splits s

-- No plan costs less than an optimal one, and where there is said to be none, none is feasible.
abbrev pub IsLeast : CaseRecord → Found → Type 0
IsLeast c (Optimal b) = (plan : List ℕ) → IsFeasible c plan → cost c b.plan.choice ≤ cost c plan
IsLeast c (NoPlan s) = (plan : List ℕ) → IsFeasible c plan → ⊥
IsLeast c (Open s) = Unit {0}

abbrev pub is_open : Found → Bool
is_open (Optimal b) = false
is_open (NoPlan s) = false
is_open (Open s) = true
