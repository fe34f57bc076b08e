use Rattle.std.proofs.Common.{◌≡◌, ◌++◌, drop}
use Rattle.std.specs.Prelude.{filter, not}
use Rattle.leaf_bounds.specs.Sharing.{is_entry_of}
use Rattle.leaf_bounds.proofs.shared_leaf.others_of.Given as goal

-- those that are kept so far, and those of what is left
abbrev pub invariant-loop-x : goal.invariant-loop-x
invariant-loop-x l =
    filter (λ x. not (is_entry_of l.pairs x)) l.entries ≡ l.others.items ++ filter (λ x. not (is_entry_of l.pairs x)) (drop l.x-index l.entries)
