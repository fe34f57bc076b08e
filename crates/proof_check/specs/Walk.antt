-- The state that a walk of a checker stands for, and what is true of each walk.
use Rattle.std.specs.Prelude.{◌≡◌, ◌==◌, ◌&&◌, not, Bool, true, false, List, [], ◌∷◌, length, All, Some, Result, Ok, Err, if◌then◌else◌}
use Rattle.std.specs.Option.{option_map, is_some}
use Rattle.patterns.specs.Book.{IsBook}
use Rattle.patterns.specs.Allowed.{Lists, full_lists, FitsBook}
use Rattle.pair_prices.specs.Case.{CaseRecord}
use Rattle.leaf_bounds.specs.declared.check.LeafValue.{LeafValue}
use Rattle.leaf_bounds.specs.declared.check.LeafFault.{LeafFault}
use Rattle.leaf_bounds.specs.declared.check.LeafFault.TheVariants.{Pair as PairFault, Pattern as PatternFault}
use Rattle.leaf_bounds.specs.declared.tree.Bound.{Bound}
use Rattle.leaf_bounds.specs.declared.tree.Bound.TheVariants.{AtLeast, Nothing}
use Rattle.proof_file.specs.declared.record.ProofRecord.{ProofRecord}
use Rattle.proof_file.specs.declared.record.ProofRecord.TheVariants.{U, V, A, B, Use}
use Rattle.proof_rules.specs.Fault.{State, after}
use Rattle.proof_rules.specs.declared.refused.ProofKind.TheVariants.{Pair, Pattern}
use Rattle.proof_check.specs.declared.leaf.OpenLeaf.{OpenLeaf}
use Rattle.proof_check.specs.declared.stage.Stage.{Stage}
use Rattle.proof_check.specs.declared.stage.Stage.TheVariants.{Head, Start, Tree, Last, Over}
use Rattle.proof_check.specs.declared.stop.Stop.{Stop}
use Rattle.proof_check.specs.declared.stop.Stop.TheVariants.{Refused}
use Rattle.proof_check.specs.declared.walk.Walk.{Walk}
use Rattle.proof_check.specs.Due.{AreOpen, due_of}
use Rattle.proof_check.specs.Going.{Follows}
use Rattle.proof_check.specs.Open.{IsLeaf, leaf_of}
use Rattle.proof_check.specs.Tables.{AreThere, groups_of}

abbrev pub is_head : Stage → Bool
is_head Head = true
is_head Start = false
is_head Tree = false
is_head Last = false
is_head Over = false

-- a node may be due
abbrev pub has_nodes : Stage → Bool
has_nodes Head = false
has_nodes Start = true
has_nodes Tree = true
has_nodes Last = false
has_nodes Over = false

-- a node was read
abbrev pub is_tree : Stage → Bool
is_tree Head = false
is_tree Start = false
is_tree Tree = true
is_tree Last = true
is_tree Over = true

-- a leaf may be open
abbrev pub has_leaf : Stage → Bool
has_leaf Head = false
has_leaf Start = false
has_leaf Tree = true
has_leaf Last = false
has_leaf Over = false

abbrev pub is_last : Stage → Bool
is_last Head = false
is_last Start = false
is_last Tree = false
is_last Last = true
is_last Over = false

abbrev pub is_over : Stage → Bool
is_over Head = false
is_over Start = false
is_over Tree = false
is_over Last = false
is_over Over = true

-- after a leaf, where more is due, and where nothing is
abbrev pub stage_by : Bool → Stage
stage_by true = Tree
stage_by false = Last

-- the lists that are due
abbrev pub due_by : Stage → List Lists → List Lists
due_by stage due = if has_nodes stage then due else []

abbrev pub state_of : Walk → State
state_of w = record {
  version = w.version;
  tables = groups_of w.tables;
  is_tree = is_tree w.stage;
  due = due_by w.stage (due_of w.splits);
  leaf = option_map leaf_of w.leaf;
  least = w.least;
  is_over = is_over w.stage;
}

-- a node is due
abbrev pub node_due : Walk → Bool
node_due w = not (is_some w.leaf) && has_nodes w.stage

-- what is true of every walk
pub record IsSound (c : CaseRecord) (w : Walk) : Type 0 where
  pub book : IsBook c.book
  pub head : (w.version == 0) ≡ is_head w.stage
  pub there : AreThere (length c.book) (groups_of w.tables)
  pub open_splits : AreOpen w.splits
  pub fits : All (λ lists. FitsBook lists c.book) (due_by w.stage (due_of w.splits))
  pub full : is_head w.stage ≡ true → due_of w.splits ≡ full_lists c.book ∷ []
  pub inside : is_some w.leaf ≡ true → has_leaf w.stage ≡ true
  pub leaf : (o : OpenLeaf) → w.leaf ≡ Some o → IsLeaf c (groups_of w.tables) w.splits.lists.lists o

-- it goes on as the rules say, and stays such a walk
abbrev pub IsStep : CaseRecord → Walk → ProofRecord → Walk → Result (Unit {0}) Stop → Type 0
IsStep c old r new result = Follows (after c (state_of old) r) (λ s. (state_of new ≡ s) × IsSound c new) result

-- a record of the numbers of a leaf
abbrev pub is_number : ProofRecord → Bool
is_number (U x) = true
is_number (V x) = true
is_number (A x) = true
is_number (B x) = true
is_number (Use x) = true
is_number _ = false

-- what a leaf's value says of the cost of plans
abbrev pub bound_told : LeafValue → Bound
bound_told x = if x.empty then Nothing else AtLeast x.bound

abbrev pub checked_bound : Result LeafValue LeafFault → Result Bound Stop
checked_bound (Ok x) = Ok (bound_told x)
checked_bound (Err (PairFault x)) = Err (Refused Pair)
checked_bound (Err (PatternFault x)) = Err (Refused Pattern)
