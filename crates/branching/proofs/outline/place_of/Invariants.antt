use Rattle.std.proofs.Common.{◌≡◌, drop}
use Rattle.std.specs.Prelude.{count_by}
use Rattle.branching.specs.Outline.{is_leaf}
use Rattle.branching.proofs.outline.place_of.Given as goal

-- the leaf stands at the place or behind it
abbrev pub invariant-loop-place : goal.invariant-loop-place
invariant-loop-place l = count_by (is_leaf l.slot) (drop l.place l.entries) ≡ 1
