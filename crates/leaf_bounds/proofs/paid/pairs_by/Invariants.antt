use Rattle.std.proofs.Common.{◌≡◌, ◌+◌, ◌-◌, ◌*◌, ◌≤◌}
use Rattle.std.specs.Prelude.{map, sum_by, ◌^◌}
use Rattle.std.specs.List.{range_with_len}
use Rattle.leaf_bounds.specs.Fixed.{pairs_paid, sealed_at}
use Rattle.leaf_bounds.proofs.paid.pairs_by.Given as goal

-- the sum so far, and what is left
abbrev pub invariant-loop-second : goal.invariant-loop-second
invariant-loop-second l = record {
  value : l.sum + sum_by (sealed_at l.case l.plan) (map (λ t. record { first = l.train; second = t }) (range_with_len l.second (l.trains - l.second)))
      ≡ pairs_paid l.case l.plan l.train;
  size : l.sum ≤ l.second * 10 ^ 13;
}
