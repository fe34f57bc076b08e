use Rattle.std.proofs.Common.{◌≡◌, length, arith}
use Rattle.plan_cost.proofs.PlanTexts.{choice_written, plan_written}
use Rattle.plan_cost.proofs.writing.write_plan.Goals as goal

pub loop-train-preserved : goal.loop-train-preserved
loop-train-preserved c =
    choice_written c.args.plan.now.choice c.loop-train.train c.number.result c.loop-train.text.items c.push_record-in-loop-train.new.into.items
    c.loop-train.invariant c.in_ok-push_record-2.ensures c.number.ensures

pub returns : goal.returns
returns c =
    let end : c.loop-train.train ≡ length c.args.plan.now.choice = omega arith in
    plan_written c.args.plan.now.choice c.loop-train.train c.loop-train.text.items c.push_record-2.new.into.items end
    c.loop-train.invariant c.in_ok-push_record-3.ensures
