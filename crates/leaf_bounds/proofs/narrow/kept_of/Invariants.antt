use Rattle.std.proofs.Common.{◌≡◌, ◌++◌, drop}
use Rattle.leaf_bounds.specs.Sides.{kept_entries}
use Rattle.leaf_bounds.proofs.narrow.kept_of.Given as goal

-- those that are kept so far, and those of what is left
abbrev pub invariant-loop-x : goal.invariant-loop-x
invariant-loop-x l =
    kept_entries l.allowed.lists l.side l.entries ≡ l.kept.items ++ kept_entries l.allowed.lists l.side (drop l.x-index l.entries)
