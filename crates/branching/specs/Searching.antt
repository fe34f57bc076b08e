-- What is true of a search between two splits.
use Rattle.std.specs.Prelude.{◌≡◌, ℕ, ◌+◌, ◌<◌, ◌≤◌, ◌==◌, Bool, false, nat_lt, if◌then◌else◌, List, [], ◌∷◌, length, count_by, slice_get, All, Option, Some, ℤ, ◌≤ℤ◌}
use Rattle.patterns.specs.Allowed.{Lists, full_lists}
use Rattle.pair_prices.specs.Case.{CaseRecord}
use Rattle.leaf_bounds.specs.declared.tree.Bound.{Bound}
use Rattle.leaf_bounds.specs.declared.tree.Bound.TheVariants.{AtLeast, Nothing}
use Rattle.leaf_bounds.specs.Leaf.{bound_of}
use Rattle.leaf_bounds.specs.Shown.{numbers_of, LeafStands}
use Rattle.leaf_bounds.specs.Tree.{SplitTree, split_count, tree_stands}
use Rattle.branching.specs.declared.found.Priced.{Priced}
use Rattle.branching.specs.declared.outline.Entry.{Entry}
use Rattle.branching.specs.declared.part.Part.{Part}
use Rattle.branching.specs.declared.waiting.Key.{Key}
use Rattle.branching.specs.Bounds.{IsAtLeast, EachSplitIsWithin}
use Rattle.branching.specs.Known.{IsKnown, is_settled}
use Rattle.branching.specs.Node.{IsOpenPart}
use Rattle.branching.specs.Outline.{entries_of, is_leaf}

-- the key is that of the slot
abbrev pub is_key_of : ℕ → Key → Bool
is_key_of slot key = key.slot == slot

-- the keys of a part with that bound: none where the bound is settled
abbrev pub keys_for : Option Priced → Bound → ℕ → ℕ → List Key
keys_for best Nothing order slot = []
keys_for best (AtLeast n) order slot =
    if is_settled best (AtLeast n) then [] else (record { bound = n; order = order; slot = slot } ∷ [])

-- what the leaf in a slot says
abbrev pub bound_at : CaseRecord → (ℕ → Part) → ℕ → Bound
bound_at c part slot = bound_of c (numbers_of (part slot).leaf)

-- The leaf in the slot waits to be split: its key is among the keys, and its part's lists are kept.
pub record IsWaiting (c : CaseRecord) (part : ℕ → Part) (keys : List Key) (lists : Lists) (slot : ℕ) : Type 0 where
  pub own : (part slot).allowed.lists ≡ lists
  pub key : 1 ≤ count_by (is_key_of slot) keys
  pub open_part : IsOpenPart c lists (bound_at c part slot)

-- What is true of a leaf of the tree, whose bound is at least the level of the search. Unless its bound is settled it waits.
pub record IsLeafAt (c : CaseRecord) (slots : ℕ) (part : ℕ → Part) (keys : List Key) (best : Option Priced) (level : ℤ) (lists : Lists) (slot : ℕ) : Type 0 where
  pub there : slot < slots
  pub stands : LeafStands c lists (part slot).leaf
  pub above : IsAtLeast level (bound_at c part slot)
  pub waits : is_settled best (bound_at c part slot) ≡ false → IsWaiting c part keys lists slot

-- what is true of a key
pub record IsKeyAt (c : CaseRecord) (slots : ℕ) (part : ℕ → Part) (level : ℤ) (key : Key) : Type 0 where
  pub there : key.slot < slots
  pub value : bound_at c part key.slot ≡ AtLeast key.bound
  pub above : level ≤ℤ key.bound

-- The level is at least the bound of each leaf that was split.
pub record IsGrown (c : CaseRecord) (slots : ℕ) (part : ℕ → Part) (keys : List Key) (best : Option Priced) (level : ℤ) (tree : SplitTree ℕ) : Type 0 where
  pub leaves : tree_stands (IsLeafAt c slots part keys best level) (full_lists c.book) tree
  pub cheap : EachSplitIsWithin c level (full_lists c.book) tree
  pub each_key : All (IsKeyAt c slots part level) keys
  pub one_key : (slot : ℕ) → count_by (is_key_of slot) keys ≤ 1

-- each slot is that of one leaf
abbrev pub AreSlots : List Entry → ℕ → Type 0
AreSlots entries slots = (slot : ℕ) → count_by (is_leaf slot) entries ≡ (if nat_lt slot slots then 1 else 0)

-- The entries are those of a tree over the parts, of which the leaves with keys wait.
pub record IsSearch (c : CaseRecord) (entries : List Entry) (parts : List Part) (keys : List Key) (best : Option Priced) : Type 0 where
  pub tree : SplitTree ℕ
  pub level : ℤ
  pub part : ℕ → Part
  pub outline : entries ≡ entries_of tree
  pub slots : AreSlots entries (length parts)
  pub each_part : (slot : ℕ) (p : Part) → slice_get parts slot ≡ Some p → p ≡ part slot
  pub grown : IsGrown c (length parts) part keys best level tree
  pub count : length parts ≡ split_count tree + 1
  pub known : IsKnown c best
