-- Leaves that are taken out of their slots, one after the other.
use Rattle.std.specs.Prelude.{◌≡◌, ℕ, true, false, List, slice_get, Some, length}
use Rattle.leaf_bounds.specs.declared.tree.Node.{Node}
use Rattle.leaf_bounds.specs.declared.tree.Node.TheVariants.{Split as SplitNode, Leaf as LeafNode}
use Rattle.branching.specs.declared.outline.Entry.{Entry}
use Rattle.branching.specs.declared.outline.Entry.TheVariants.{Split, Leaf}
use Rattle.branching.specs.declared.part.Part.{Part}
use Rattle.branching.specs.Outline.{is_leaf}

-- the node of an entry
abbrev pub node_at : (ℕ → Part) → Entry → Node
node_at part (Split cut) = SplitNode cut
node_at part (Leaf slot) = LeafNode (part slot).leaf

-- each slot still has its leaf
abbrev pub ArePartsOf : (ℕ → Part) → List Part → Type 0
ArePartsOf part parts = (slot : ℕ) (p : Part) → slice_get parts slot ≡ Some p → p.leaf ≡ (part slot).leaf

-- the slot of the entry still has its leaf
abbrev pub IsPartOf : (ℕ → Part) → Entry → List Part → Type 0
IsPartOf part entry parts = (slot : ℕ) (p : Part) → is_leaf slot entry ≡ true → slice_get parts slot ≡ Some p → p.leaf ≡ (part slot).leaf

-- All slots but that of the entry are as they were.
pub record AreOthersKept (entry : Entry) (old new : List Part) : Type 0 where
  pub others : (slot : ℕ) → is_leaf slot entry ≡ false → slice_get new slot ≡ slice_get old slot
  pub count : length new ≡ length old
