use Rattle.std.proofs.Common.{◌≡◌, map, drop}
use Rattle.patterns.specs.Book.{price_at}
use Rattle.leaf_bounds.specs.Made.{least_price}
use Rattle.leaf_bounds.proofs.LeastLemmas.{least_with}
use Rattle.leaf_bounds.proofs.plain.least_price_of.Given as goal

-- the least so far and of what is left
abbrev pub invariant-loop-number : goal.invariant-loop-number
invariant-loop-number l =
    least_with l.least (map (price_at l.case.book l.train) (drop l.number-index l.numbers)) ≡ least_price l.case l.allowed.lists l.train
