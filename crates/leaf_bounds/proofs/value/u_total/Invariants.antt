use Rattle.std.proofs.Common.{◌≡◌, ◌*◌, ◌≤◌}
use Rattle.std.specs.Prelude.{◌^◌, unsigned_abs}
use Rattle.station.specs.Allowed.{numbers}
use Rattle.leaf_bounds.specs.Listed.{u_listed}
use Rattle.leaf_bounds.specs.Total.{total}
use Rattle.leaf_bounds.proofs.value.u_total.Given as goal

abbrev pub invariant-loop-train : goal.invariant-loop-train
invariant-loop-train l = record {
  value : l.sum ≡ total (u_listed l.leaf.u) (numbers l.train);
  size : unsigned_abs l.sum ≤ l.train * (200 * 10 ^ 30);
}
