use Rattle.std.proofs.Common.{◌≡◌, ◌==◌, ◌-◌}
use Rattle.std.specs.Prelude.{find}
use Rattle.std.specs.List.{range_with_len}
use Rattle.pair_prices.specs.Plan.{chosen}
use Rattle.leaf_bounds.specs.Fixed.{opener}
use Rattle.leaf_bounds.proofs.paid.opener_of.Given as goal

-- no train so far is on the platform
abbrev pub invariant-loop-train : goal.invariant-loop-train
invariant-loop-train l =
    opener l.case l.plan l.platform ≡ find (λ t. (chosen l.case l.plan t).platform == l.platform) (range_with_len l.train (l.trains - l.train))
