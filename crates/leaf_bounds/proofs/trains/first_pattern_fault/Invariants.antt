use Rattle.std.proofs.Common.{◌≡◌, ◌-◌}
use Rattle.std.specs.Prelude.{find}
use Rattle.std.specs.List.{flat_map, range_with_len}
use Rattle.leaf_bounds.specs.Shown.{numbers_of}
use Rattle.leaf_bounds.specs.Verdict.{first_pattern, pattern_fails, pattern_places}
use Rattle.leaf_bounds.proofs.trains.first_pattern_fault.Given as goal

-- no pattern of the trains so far fails
abbrev pub invariant-loop-train : goal.invariant-loop-train
invariant-loop-train l =
    first_pattern l.case l.allowed.lists (numbers_of l.leaf)
    ≡ find (pattern_fails l.case (numbers_of l.leaf)) (flat_map (pattern_places l.allowed.lists) (range_with_len l.train (l.trains - l.train)))
