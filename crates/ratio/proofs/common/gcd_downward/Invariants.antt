use Rattle.std.proofs.Common.{ℕ, ◌≤◌}
use Rattle.std.specs.Int.{IsGcd}
use Rattle.ratio.proofs.common.gcd_downward.Given as goal

abbrev pub invariant-loop-x : goal.invariant-loop-x
invariant-loop-x l = record {
  kept : (g : ℕ) → IsGcd l.x l.y g → IsGcd l.fn.a l.fn.b g;
  order : l.y ≤ l.x;
}

abbrev pub decreases-loop-x : goal.decreases-loop-x
decreases-loop-x l = l.y
