use Rattle.std.proofs.Common.{◌≡◌, ◌≤◌}
use Rattle.pattern_pricing.specs.Positions.{start_of}
use Rattle.pattern_pricing.specs.Prices.{prices_of}
use Rattle.pattern_pricing.specs.Reduced.{scaled_front}
use Rattle.pattern_pricing.proofs.reduced.scaled_prices.Given as goal

abbrev pub invariant-loop-train : goal.invariant-loop-train
invariant-loop-train l = record {
  value : l.scaled.items ≡ scaled_front l.duals.scale (prices_of l.case l.layout) (start_of l.layout l.train);
  ledger : l.initial.width ≤ l.width;
}

abbrev pub invariant-loop-number : goal.invariant-loop-number
invariant-loop-number l = record {
  value : l.scaled.items ≡ scaled_front l.duals.scale (prices_of l.case l.layout) l.number;
  ledger : l.initial.width ≤ l.width;
}
