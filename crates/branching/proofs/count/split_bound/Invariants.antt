use Rattle.std.proofs.Common.{◌≡◌, ◌-◌, ◌≤◌, ◌^◌, take, min}
use Rattle.patterns.specs.Allowed.{full_lists}
use Rattle.leaf_bounds.specs.Tree.{plan_count}
use Rattle.branching.proofs.count.split_bound.Given as goal

abbrev pub invariant-loop-train : goal.invariant-loop-train
invariant-loop-train l = record {
  value : l.bound ≡ min (plan_count (take l.train (full_lists l.book)) - 1) (2 ^ 128 - 1);
  some : 1 ≤ plan_count (take l.train (full_lists l.book));
}
