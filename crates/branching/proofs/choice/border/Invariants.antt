use Rattle.std.proofs.Common.{◌<◌, length}
use Rattle.branching.proofs.choice.border.Given as goal

abbrev pub invariant-loop-place : goal.invariant-loop-place
invariant-loop-place l = l.best < length l.numbers
