use Rattle.std.proofs.Common.{◌≡◌, ◌≤◌}
use Rattle.std.specs.Prelude.{sum_by, if◌then◌else◌}
use Rattle.station.specs.Allowed.{numbers}
use Rattle.pair_prices.specs.Fraction.{holds_there, pattern_of}
use Rattle.clique_cuts.specs.Over.{fraction_of}
use Rattle.clique_cuts.proofs.held.held_by.Given as goal

abbrev pub invariant-loop-place : goal.invariant-loop-place
invariant-loop-place l = record {
  value : l.total ≡ sum_by (λ i. if holds_there l.case l.spot.platform l.spot.minute (pattern_of l.case l.allowed.lists l.train i)
      then (fraction_of l.weights).weight l.train i else 0) (numbers l.place);
  most : l.total ≤ sum_by ((fraction_of l.weights).weight l.train) (numbers l.place);
}
