use Rattle.std.proofs.Common.{◌≡◌, drop}
use Rattle.leaf_bounds.specs.Sharing.{same_entries}
use Rattle.leaf_bounds.proofs.groups.are_same.Given as goal

-- none of the numbers so far differs
abbrev pub invariant-loop-k : goal.invariant-loop-k
invariant-loop-k l = same_entries l.a l.b ≡ same_entries (drop l.k l.a) (drop l.k l.b)
