use Rattle.std.proofs.Common.{length, ap, arith}
use Rattle.dual_leaves.proofs.Payments.{front_all, front_more}
use Rattle.dual_leaves.proofs.excess.pay_excess.Goals as goal

pub loop-platform-preserved : goal.loop-platform-preserved
loop-platform-preserved c =
    let so_far = c.loop-platform.invariant.ledger in
    let here = c.in_ok-pay_platform.ensures.ledger in
    record {
      paid = front_more c.args.case.now c.args.scale.now c.args.uses.now.entries c.args.v.now.entries c.loop-platform.platform c.loop-platform.v.entries
          c.pay_platform.new.v.entries c.loop-platform.invariant.paid c.in_ok-pay_platform.ensures.paid;
      ledger = omega (arith, so_far, here);
    }

pub returns-clause-paid : goal.returns-clause-paid
returns-clause-paid c =
    let n = c.len-platforms.ensures in
    let same = ap (λ r. length r.platforms) c.station.ensures.value in
    let past = c.loop-platform-test.false in
    let most = c.loop-platform.auto.platform-end in
    front_all c.args.case.now c.args.scale.now c.args.uses.now.entries c.args.v.now.entries c.loop-platform.platform c.loop-platform.v.entries
    (omega (arith, n, same, past, most)) c.loop-platform.invariant.paid
