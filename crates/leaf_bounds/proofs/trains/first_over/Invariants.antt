use Rattle.std.proofs.Common.{◌≡◌, map, drop}
use Rattle.std.specs.Prelude.{find}
use Rattle.leaf_bounds.specs.Shown.{numbers_of}
use Rattle.leaf_bounds.specs.Verdict.{pattern_fails, pattern_places}
use Rattle.leaf_bounds.proofs.trains.first_over.Given as goal

-- none of the numbers so far fails
abbrev pub invariant-loop-number : goal.invariant-loop-number
invariant-loop-number l =
    find (pattern_fails l.case (numbers_of l.leaf)) (pattern_places l.allowed.lists l.train)
    ≡ find (pattern_fails l.case (numbers_of l.leaf)) (map (λ i. record { train = l.train; number = i }) (drop l.number-index l.numbers))
