use Rattle.std.proofs.Common.{◌≡◌, ℕ, ◌≤◌, map, take, drop, length}
use Rattle.std.specs.Prelude.{count_by, slice_get}
use Rattle.branching.specs.declared.part.Part.{Part}
use Rattle.branching.specs.Ended.{node_at, ArePartsOf}
use Rattle.branching.specs.Outline.{is_leaf}
use Rattle.branching.proofs.ending.tree_of.Given as goal

abbrev pub invariant-loop-entry : goal.invariant-loop-entry
invariant-loop-entry l = record {
  count : length l.parts.items ≡ length l.fn.parts.items;
  nodes : (part : ℕ → Part) → ArePartsOf part l.fn.parts.items → l.nodes.items ≡ map (node_at part) (take l.entry-index l.entry-items);
  -- the leaves of what is left are in their slots
  left : (slot : ℕ) → 1 ≤ count_by (is_leaf slot) (drop l.entry-index l.entry-items) → slice_get l.parts.items slot ≡ slice_get l.fn.parts.items slot;
}
