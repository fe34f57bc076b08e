use Rattle.std.proofs.Common.{◌≡◌, ◌≤◌, ◌*◌, length}
use Rattle.std.specs.Prelude.{sum_by}
use Rattle.station.specs.Allowed.{numbers}
use Rattle.patterns.specs.Allowed.{list_of}
use Rattle.pattern_pricing.specs.Kept.{AreStarts}
use Rattle.pattern_pricing.proofs.starts.starts_of.Given as goal

abbrev pub invariant-loop-train : goal.invariant-loop-train
invariant-loop-train l = record {
  starts : AreStarts (λ train. length (list_of l.lists train)) l.train l.starts.items;
  total : l.total ≡ sum_by (λ train. length (list_of l.lists train)) (numbers l.train);
  most : l.total ≤ 4096 * l.train;
}
