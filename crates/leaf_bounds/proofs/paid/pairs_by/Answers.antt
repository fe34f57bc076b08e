use Rattle.std.proofs.Common.{length, ap, ◌∙◌, arith}
use Rattle.leaf_bounds.specs.Fixed.{sealed_at}
use Rattle.leaf_bounds.proofs.PaidLemmas.{pairs_more, pairs_start}
use Rattle.leaf_bounds.proofs.paid.pairs_by.Goals as goal

pub loop-second-init : goal.loop-second-init
loop-second-init c = record {
  value = pairs_start c.args.case.now c.args.plan.now c.args.train c.trains-trains.result (c.trains-trains.ensures.value ∙ ap length c.book.ensures);
  size = omega arith;
}

pub loop-second-preserved : goal.loop-second-preserved
loop-second-preserved c =
    let size = c.loop-second.invariant.size in
    let limit = c.sealed_by-sum.ensures.limit in
    record {
      value = pairs_more (sealed_at c.args.case.now c.args.plan.now) (λ t. record { first = c.args.train; second = t }) c.loop-second.second
          c.trains-trains.result c.loop-second.sum c.sealed_by-sum.result _ c.loop-second-test.true c.loop-second.invariant.value c.sealed_by-sum.ensures.value;
      size = omega (arith, size, limit);
    }
