use Rattle.std.proofs.Common.{◌≡◌, ◌++◌, ◌-◌}
use Rattle.std.specs.Prelude.{flat_map, map}
use Rattle.std.specs.List.{range_with_len}
use Rattle.pair_prices.specs.Trains.{pairs_with}
use Rattle.leaf_bounds.specs.Fixed.{listed_pair}
use Rattle.leaf_bounds.proofs.fixed.push_pairs.Given as goal

-- what is added so far, and what is left
abbrev pub invariant-loop-second : goal.invariant-loop-second
invariant-loop-second l =
    l.initial.alpha.items ++ flat_map (listed_pair l.case l.plan) (pairs_with l.trains l.first)
    ≡ l.alpha.items ++ flat_map (listed_pair l.case l.plan) (map (λ t. record { first = l.first; second = t }) (range_with_len l.second (l.trains - l.second)))
