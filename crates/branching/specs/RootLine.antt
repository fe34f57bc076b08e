-- What was known of all plans before any split, and what follows for the answer.
use Rattle.std.specs.Prelude.{◌≡◌, ℕ, Bool, true, false, List, Some, None, ℤ, pos, ◌*ℤ◌, ◌≤ℤ◌, unsigned_abs, int_le, All, if◌then◌else◌}
use Rattle.ratio.specs.declared.fraction.Ratio.{Ratio}
use Rattle.patterns.specs.Allowed.{full_lists}
use Rattle.pair_prices.specs.Case.{CaseRecord}
use Rattle.pair_prices.specs.Fraction.{IsRootValue}
use Rattle.pair_prices.specs.Plan.{cost}
use Rattle.pair_prices.specs.Top.{top_of}
use Rattle.leaf_bounds.specs.declared.leaf.Leaf.{Leaf}
use Rattle.leaf_bounds.specs.declared.tree.Bound.{Bound}
use Rattle.leaf_bounds.specs.declared.tree.Bound.TheVariants.{AtLeast, Nothing}
use Rattle.leaf_bounds.specs.Leaf.{ceiling}
use Rattle.primal_heuristic.specs.Greedy.{greedy_plan}
use Rattle.master_lp.specs.Bounds.{IsBound}
use Rattle.branching.specs.declared.found.Found.{Found}
use Rattle.branching.specs.declared.found.Found.TheVariants.{Optimal, NoPlan, Open}
use Rattle.branching.specs.declared.found.Root.{Root}
use Rattle.branching.specs.declared.waiting.Key.{Key}
use Rattle.branching.specs.Bounds.{IsNoLess, least_sum}

-- The fraction is the root value of the case: the least cost of a fractional plan over the full lists.
pub record IsExactValue (c : CaseRecord) (value : Ratio) : Type 0 where
  pub whole : pos (unsigned_abs value.num) ≡ value.num
  pub root : IsRootValue c (unsigned_abs value.num) (unsigned_abs value.den)

-- The leaf stands for the full lists, and its value over its scale is the root's. That is at least the sum over the trains of
-- the least price in the train's list, 0 for an empty list. Unless it is weak, it is the root value of the case.
pub record IsRootBy (c : CaseRecord) (leaf : Leaf) (root : Root) : Type 0 where
  pub bound : IsBound c (full_lists c.book) leaf root.value
  pub plain : (pos (least_sum c (full_lists c.book)) *ℤ root.value.den) ≤ℤ root.value.num
  pub exact : root.weak ≡ None → IsExactValue c root.value

-- so by some leaf
abbrev pub IsRoot : CaseRecord → Root → Type 0
IsRoot c root = (leaf : Leaf) × IsRootBy c leaf root

abbrev pub root_of : Found → Root
root_of (Optimal b) = b.root
root_of (NoPlan s) = s.root
root_of (Open s) = s.root

-- the bound of an answer's tree
abbrev pub shown_bound : Found → Bound
shown_bound (Optimal b) = AtLeast b.cost
shown_bound (NoPlan s) = Nothing
shown_bound (Open s) = AtLeast s.bound

abbrev pub is_optimal : Found → Bool
is_optimal (Optimal b) = true
is_optimal (NoPlan s) = false
is_optimal (Open s) = false

abbrev pub is_no_plan : Found → Bool
is_no_plan (Optimal b) = false
is_no_plan (NoPlan s) = true
is_no_plan (Open s) = false

-- the fraction rounded up to a whole number
abbrev pub rounded_up : Ratio → ℤ
rounded_up value = ceiling value.num value.den

-- the fraction is at least TOP
abbrev pub IsTopOrMore : CaseRecord → Ratio → Type 0
IsTopOrMore c value = (value.den *ℤ pos (top_of c)) ≤ℤ value.num

-- There is a greedy plan, and the fraction rounded up is at least its cost.
abbrev pub ReachesGreedy : CaseRecord → Ratio → Type 0
ReachesGreedy c value = (plan : List ℕ) × (greedy_plan c ≡ Some plan) × (pos (cost c plan) ≤ℤ rounded_up value)

-- what a leaf of this value says of plans
abbrev pub root_bound : CaseRecord → Ratio → Bound
root_bound c value = if int_le (value.den *ℤ pos (top_of c)) value.num then Nothing else AtLeast (rounded_up value)

-- The bounds of leaves that wait are at least what the root says.
abbrev pub AreAboveRoot : CaseRecord → Root → List Key → Type 0
AreAboveRoot c root keys = All (λ key. IsNoLess (root_bound c root.value) (AtLeast key.bound)) keys

-- the bound of a tree that isn't decided is at least what the root says
abbrev pub IsOpenAboveRoot : CaseRecord → Found → Type 0
IsOpenAboveRoot c (Optimal b) = Unit {0}
IsOpenAboveRoot c (NoPlan s) = Unit {0}
IsOpenAboveRoot c (Open s) = IsNoLess (root_bound c s.root.value) (AtLeast s.bound)
