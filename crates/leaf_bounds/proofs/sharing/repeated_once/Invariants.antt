use Rattle.std.proofs.Common.{◌≡◌, map, take}
use Rattle.std.specs.Prelude.{filter}
use Rattle.leaf_bounds.specs.Group.{group_in}
use Rattle.leaf_bounds.specs.Sharing.{each_once, is_twice}
use Rattle.leaf_bounds.proofs.sharing.repeated_once.Given as goal

abbrev pub invariant-loop-group : goal.invariant-loop-group
invariant-loop-group l =
    map group_in l.tables.items ≡ each_once (filter (is_twice (map group_in l.all)) (map group_in (take l.group-index l.all)))
