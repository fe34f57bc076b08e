use Rattle.std.proofs.Common.{◌≡◌, ◌+◌, ◌≤◌}
use Rattle.pattern_pricing.specs.Positions.{start_of}
use Rattle.pattern_pricing.specs.Prices.{prices_of}
use Rattle.pattern_pricing.specs.Reduced.{scaled_front}
use Rattle.pattern_pricing.proofs.reduced.push_train.Given as goal

abbrev pub invariant-loop-place : goal.invariant-loop-place
invariant-loop-place l = record {
  value : l.into.items ≡ scaled_front l.duals.scale (prices_of l.case l.layout) (start_of l.layout l.train + l.place);
  ledger : l.initial.width ≤ l.width;
}
