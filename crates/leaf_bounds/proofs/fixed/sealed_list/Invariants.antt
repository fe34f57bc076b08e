use Rattle.std.proofs.Common.{◌≡◌}
use Rattle.std.specs.Prelude.{flat_map}
use Rattle.station.specs.Allowed.{numbers}
use Rattle.pair_prices.specs.Trains.{pairs_with}
use Rattle.leaf_bounds.specs.Fixed.{listed_pair}
use Rattle.leaf_bounds.proofs.fixed.sealed_list.Given as goal

abbrev pub invariant-loop-first : goal.invariant-loop-first
invariant-loop-first l = l.alpha.items ≡ flat_map (listed_pair l.case l.plan) (flat_map (pairs_with l.trains) (numbers l.first))
