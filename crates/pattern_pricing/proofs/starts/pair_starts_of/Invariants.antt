use Rattle.std.proofs.Common.{◌≡◌, ◌≤◌, ◌*◌, ◌+◌, ◌-◌}
use Rattle.std.specs.Prelude.{sum_by}
use Rattle.station.specs.Allowed.{numbers}
use Rattle.pattern_pricing.specs.Kept.{AreStarts}
use Rattle.pattern_pricing.proofs.starts.pair_starts_of.Given as goal

abbrev pub invariant-loop-train : goal.invariant-loop-train
invariant-loop-train l = record {
  starts : AreStarts (λ train. l.trains - (train + 1)) l.train l.starts.items;
  total : l.total ≡ sum_by (λ train. l.trains - (train + 1)) (numbers l.train);
  most : l.total ≤ 200 * l.train;
}
