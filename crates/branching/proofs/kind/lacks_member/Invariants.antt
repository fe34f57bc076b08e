use Rattle.std.proofs.Common.{ℕ, ◌<◌, []}
use Rattle.std.specs.Prelude.{◌≢◌}
use Rattle.patterns.specs.Allowed.{list_of}
use Rattle.branching.proofs.kind.lacks_member.Given as goal

abbrev pub invariant-loop-train : goal.invariant-loop-train
invariant-loop-train l = (t : ℕ) → t < l.train → list_of l.allowed.lists t ≢ []
