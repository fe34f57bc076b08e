use Rattle.std.proofs.Common.{◌≡◌, map, take}
use Rattle.std.specs.Prelude.{slice_index}
use Rattle.leaf_bounds.proofs.fixed.only_plan.Given as goal

abbrev pub invariant-loop-list : goal.invariant-loop-list
invariant-loop-list l = l.plan.items ≡ map (λ ns. slice_index ns 0) (take l.list-index l.list-items)
