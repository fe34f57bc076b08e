use Rattle.std.proofs.Common.{◌<◌, length, ap, arith}
use Rattle.std.specs.Prelude.{◌^◌}
use Rattle.leaf_bounds.specs.Leaf.{excess}
use Rattle.leaf_bounds.specs.Shown.{numbers_of}
use Rattle.leaf_bounds.proofs.WideLemmas.{added_is, added_size}
use Rattle.leaf_bounds.proofs.value.excess_total.Goals as goal

pub loop-platform-preserved : goal.loop-platform-preserved
loop-platform-preserved c =
    let same = ap (λ r. length r.platforms) c.station.ensures.value in
    let few : c.loop-platform.platform < 64 =
    omega (arith, c.loop-platform-test.true, c.len-platforms.ensures, same, c.station.ensures.limits.station.platforms_most) in
    let size = c.loop-platform.invariant.size in
    record {
      value = added_is (excess c.args.case.now (numbers_of c.args.leaf.now)) c.loop-platform.platform (10 ^ 36) _ c.excess_of-sum.result
          c.loop-platform.invariant.value c.excess_of-sum.ensures.value c.loop-platform.invariant.size (omega (arith, size, few))
          c.excess_of-sum.ensures.size (omega arith);
      size = added_size (excess c.args.case.now (numbers_of c.args.leaf.now)) c.loop-platform.platform (10 ^ 36) _ c.excess_of-sum.result
          c.loop-platform.invariant.value c.excess_of-sum.ensures.value c.loop-platform.invariant.size (omega (arith, size, few))
          c.excess_of-sum.ensures.size (omega arith);
    }
