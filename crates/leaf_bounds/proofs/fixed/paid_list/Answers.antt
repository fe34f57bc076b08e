use Rattle.std.proofs.Common.{◌≡◌, length, ap, ◌∙◌, arith}
use Rattle.leaf_bounds.specs.Building.{value_list}
use Rattle.leaf_bounds.specs.Fixed.{paid}
use Rattle.leaf_bounds.proofs.BareLemmas.{value_list_none, value_list_more}
use Rattle.leaf_bounds.proofs.fixed.paid_list.Goals as goal

pub loop-train-init : goal.loop-train-init
loop-train-init c = c.new-u.ensures.items ∙ value_list_none (paid c.args.case.now c.args.plan.now)

pub loop-train-preserved : goal.loop-train-preserved
loop-train-preserved c =
    value_list_more (paid c.args.case.now c.args.plan.now) c.loop-train.train c.paid_by-value.result c.loop-train.u.items c.push_value.new.u.items
    c.loop-train.invariant c.in_ok-push_value.ensures c.paid_by-value.ensures

pub returns : goal.returns
returns c =
    let count : c.loop-train.train ≡ length c.args.case.now.book =
    omega (arith, c.loop-train.auto.train-end, c.loop-train-test.false, c.trains-trains.ensures.value, ap length c.book.ensures) in
    c.from_vec.ensures ∙ c.loop-train.invariant ∙ ap (value_list (paid c.args.case.now c.args.plan.now)) count
