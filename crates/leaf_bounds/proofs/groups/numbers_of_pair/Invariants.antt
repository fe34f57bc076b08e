use Rattle.std.proofs.Common.{◌≡◌, ◌++◌, ◌≤◌, drop, map}
use Rattle.std.specs.Prelude.{filter}
use Rattle.leaf_bounds.specs.Sharing.{entries_of, is_pair_of, number_entry}
use Rattle.leaf_bounds.proofs.groups.numbers_of_pair.Given as goal

-- what is found so far, and what is left
abbrev pub invariant-loop-at : goal.invariant-loop-at
invariant-loop-at l = record {
  rest : entries_of (record { first = l.first; second = l.second }) l.xs
      ≡ l.numbers.items ++ map number_entry (filter (is_pair_of (record { first = l.first; second = l.second })) (drop l.at l.xs));
  from : l.place ≤ l.at;
}
