-- The proofs that are accepted.
use Rattle.std.specs.Prelude.{◌≡◌, ◌⊎◌, ℕ, List, length}
use Rattle.patterns.specs.Allowed.{full_lists}
use Rattle.pair_prices.specs.Case.{CaseRecord}
use Rattle.leaf_bounds.specs.declared.leaf.Leaf.{Leaf}
use Rattle.leaf_bounds.specs.declared.table.PotTable.{PotTable}
use Rattle.leaf_bounds.specs.declared.shared.SharedLeaf.{SharedLeaf}
use Rattle.leaf_bounds.specs.declared.tree.Bound.{Bound}
use Rattle.leaf_bounds.specs.declared.tree.Node.{Node}
use Rattle.leaf_bounds.specs.declared.shared.SharedNode.{SharedNode}
use Rattle.leaf_bounds.specs.Tree.{SplitTree}
use Rattle.leaf_bounds.specs.Shown.{IsTreeOf, TreeStands, bound_of_tree}
use Rattle.leaf_bounds.specs.Expansion.{IsSharedTreeOf, SharedTreeStands, bound_of_shared_tree}
use Rattle.proof_file.specs.Text.{proof_records, shared_records, text_of, AreInRange}

-- the text of a tree that stands for the full lists, and of its bound
pub record IsProof (c : CaseRecord) (bound : Bound) (bytes : List ℕ) : Type 0 where
  pub nodes : List Node
  pub tree : SplitTree Leaf
  pub order : IsTreeOf nodes tree
  pub stands : TreeStands c (full_lists c.book) tree
  pub least : bound ≡ bound_of_tree c (full_lists c.book) tree
  pub ranges : AreInRange (proof_records (length c.book) nodes bound)
  pub text : bytes ≡ text_of (proof_records (length c.book) nodes bound)

-- the same of a shared tree
pub record IsSharedProof (c : CaseRecord) (bound : Bound) (bytes : List ℕ) : Type 0 where
  pub tables : List PotTable
  pub nodes : List SharedNode
  pub tree : SplitTree SharedLeaf
  pub order : IsSharedTreeOf nodes tree
  pub stands : SharedTreeStands c tables (full_lists c.book) tree
  pub least : bound ≡ bound_of_shared_tree c tables (full_lists c.book) tree
  pub ranges : AreInRange (shared_records (length c.book) tables nodes bound)
  pub text : bytes ≡ text_of (shared_records (length c.book) tables nodes bound)

-- A proof is accepted with a bound where its bytes are such a text.
abbrev pub IsAccepted : CaseRecord → Bound → List ℕ → Type 0
IsAccepted c bound bytes = IsProof c bound bytes ⊎ IsSharedProof c bound bytes
