use Rattle.std.proofs.Common.{◌<◌, arith}
use Rattle.std.specs.Prelude.{◌*◌, ◌^◌}
use Rattle.leaf_bounds.specs.Listed.{u_listed}
use Rattle.leaf_bounds.proofs.WideLemmas.{added_is, added_size}
use Rattle.leaf_bounds.proofs.value.u_total.Goals as goal

pub loop-train-preserved : goal.loop-train-preserved
loop-train-preserved c =
    let few : c.loop-train.train < 200 = omega (arith, c.loop-train-test.true, c.trains-trains.ensures.value, c.trains-trains.ensures.limits.trains) in
    let size = c.loop-train.invariant.size in
    record {
      value = added_is (u_listed c.args.leaf.now.u) c.loop-train.train (200 * 10 ^ 30) _ c.u_of-sum.result c.loop-train.invariant.value c.u_of-sum.ensures.value
          c.loop-train.invariant.size (omega (arith, size, few)) c.u_of-sum.ensures.size (omega arith);
      size = added_size (u_listed c.args.leaf.now.u) c.loop-train.train (200 * 10 ^ 30) _ c.u_of-sum.result c.loop-train.invariant.value c.u_of-sum.ensures.value
          c.loop-train.invariant.size (omega (arith, size, few)) c.u_of-sum.ensures.size (omega arith);
    }
