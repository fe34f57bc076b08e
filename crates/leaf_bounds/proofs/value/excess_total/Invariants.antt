use Rattle.std.proofs.Common.{◌≡◌, ◌*◌, ◌≤◌}
use Rattle.std.specs.Prelude.{◌^◌, unsigned_abs}
use Rattle.station.specs.Allowed.{numbers}
use Rattle.leaf_bounds.specs.Leaf.{excess}
use Rattle.leaf_bounds.specs.Shown.{numbers_of}
use Rattle.leaf_bounds.specs.Total.{total}
use Rattle.leaf_bounds.proofs.value.excess_total.Given as goal

abbrev pub invariant-loop-platform : goal.invariant-loop-platform
invariant-loop-platform l = record {
  value : l.sum ≡ total (excess l.case (numbers_of l.leaf)) (numbers l.platform);
  size : unsigned_abs l.sum ≤ l.platform * 10 ^ 36;
}
