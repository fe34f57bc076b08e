use Rattle.std.proofs.Common.{◌≡◌, ◌≤◌, map, take}
use Rattle.std.specs.Prelude.{count_by}
use Rattle.leaf_bounds.specs.Group.{group_in}
use Rattle.leaf_bounds.specs.Sharing.{same_group}
use Rattle.leaf_bounds.proofs.sharing.is_repeated.Given as goal

abbrev pub invariant-loop-other : goal.invariant-loop-other
invariant-loop-other l = record {
  value : l.count ≡ count_by (same_group (group_in l.group)) (map group_in (take l.other-index l.all));
  size : l.count ≤ l.other-index;
}
