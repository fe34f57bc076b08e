use Rattle.std.proofs.Common.{◌≡◌, length, ap, ◌∙◌, arith}
use Rattle.leaf_bounds.specs.Fixed.{minute_list}
use Rattle.leaf_bounds.proofs.PlanLists.{minute_list_none, minute_list_more}
use Rattle.leaf_bounds.proofs.fixed.opened_list.Goals as goal

pub loop-platform-init : goal.loop-platform-init
loop-platform-init c = c.new-v.ensures.items ∙ minute_list_none c.args.case.now c.args.plan.now

pub loop-platform-preserved : goal.loop-platform-preserved
loop-platform-preserved c =
    minute_list_more c.args.case.now c.args.plan.now c.loop-platform.platform c.loop-platform.v.items c.push_opened.new.v.items
    c.loop-platform.invariant c.in_ok-push_opened.ensures

pub returns : goal.returns
returns c =
    let same = ap (λ r. length r.platforms) c.station.ensures.value in
    let count : c.loop-platform.platform ≡ length c.args.case.now.station.platforms =
    omega (arith, c.loop-platform.auto.platform-end, c.loop-platform-test.false, c.len-platforms.ensures, same) in
    c.from_vec.ensures ∙ c.loop-platform.invariant ∙ ap (minute_list c.args.case.now c.args.plan.now) count
