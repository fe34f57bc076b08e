-- The tree of a search as it grows: its leaves are the numbers of slots, and the search keeps its entries in pre-order.
use Rattle.std.specs.Prelude.{ℕ, ◌==◌, Bool, false, List, [], ◌∷◌, flat_map, if◌then◌else◌}
use Rattle.leaf_bounds.specs.declared.tree.Cut.{Cut}
use Rattle.leaf_bounds.specs.Tree.{SplitTree, end, split, preorder}
use Rattle.branching.specs.declared.outline.Entry.{Entry}
use Rattle.branching.specs.declared.outline.Entry.TheVariants.{Split, Leaf}

-- the entries of a tree
abbrev pub entries_of : SplitTree ℕ → List Entry
entries_of tree = preorder Leaf Split tree

-- the entry is the leaf in that slot
abbrev pub is_leaf : ℕ → Entry → Bool
is_leaf slot (Split cut) = false
is_leaf slot (Leaf other) = other == slot

-- what stands for an entry once the leaf in the slot is split into itself and a new one
abbrev pub grown_entry : ℕ → Cut → ℕ → Entry → List Entry
grown_entry slot cut new (Split other) = Split other ∷ []
grown_entry slot cut new (Leaf other) = if other == slot then Split cut ∷ Leaf slot ∷ Leaf new ∷ [] else Leaf other ∷ []

unfoldable pub grown_entries : ℕ → Cut → ℕ → List Entry → List Entry
grown_entries slot cut new entries = flat_map (grown_entry slot cut new) entries

-- the tree in which the leaf in the slot is split
abbrev pub grown_tree : ℕ → Cut → ℕ → SplitTree ℕ → SplitTree ℕ
grown_tree slot cut new (end other) = if other == slot then split cut (end slot) (end new) else end other
grown_tree slot cut new (split other a b) = split other (grown_tree slot cut new a) (grown_tree slot cut new b)
