use Rattle.std.proofs.Common.{◌≡◌, length}
use Rattle.proof_check.specs.Due.{later_of, AreOpen}
use Rattle.proof_check.proofs.splits.Splits.advance.Given as goal

abbrev pub invariant-loop-split : goal.invariant-loop-split
invariant-loop-split l = (later_of l.initial.self ≡ later_of l.self) × AreOpen l.self

abbrev pub decreases-loop-split : goal.decreases-loop-split
decreases-loop-split l = length l.self.above.items
