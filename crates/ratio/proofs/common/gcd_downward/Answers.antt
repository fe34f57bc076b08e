use Rattle.std.proofs.Common.{arith, ◌<◌, ◌%◌}
use Rattle.std.proofs.lemmas.Nat.Gcd.{IsGcd-from_zero, IsGcd-from_mod}
use Rattle.ratio.proofs.common.gcd_downward.Goals as goal

pub returns-then-y-eq0 : goal.returns-then-y-eq0
returns-then-y-eq0 c = c.loop-x.invariant.kept _ (IsGcd-from_zero _ _ c.if-y-eq0.true)

pub loop-x-preserved : goal.loop-x-preserved
loop-x-preserved c =
    let below : c.loop-x.x % c.loop-x.y < c.loop-x.y = omega arith in
    record { kept = λ g h. c.loop-x.invariant.kept g (IsGcd-from_mod _ _ g h); order = omega arith }

pub returns : goal.returns
returns c = rw c.from.ensures (c.loop-x.invariant.kept _ c.small_gcd.ensures)
