use Rattle.std.proofs.Common.{◌≡◌, length, ap, ◌∙◌, subst, sym, arith}
use Rattle.patterns.specs.Book.{IsBook}
use Rattle.leaf_bounds.specs.Building.{value_list, AreTrainValues}
use Rattle.leaf_bounds.specs.Made.{least_price}
use Rattle.leaf_bounds.proofs.BareLemmas.{value_list_none, value_list_more}
use Rattle.leaf_bounds.proofs.PlainLemmas.{plain_made, plain_values}
use Rattle.leaf_bounds.proofs.plain.plain_leaf.Goals as goal

pub loop-train-init : goal.loop-train-init
loop-train-init c = c.new-u.ensures.items ∙ value_list_none (least_price c.args.case.now c.args.allowed.now.lists)

pub loop-train-preserved : goal.loop-train-preserved
loop-train-preserved c =
    value_list_more (least_price c.args.case.now c.args.allowed.now.lists) c.loop-train.train c.least_price_of-price.result c.loop-train.u.items
    c.push_value.new.u.items c.loop-train.invariant c.in_ok-push_value.ensures c.least_price_of-price.ensures

pub bare_leaf-requires : goal.bare_leaf-requires
bare_leaf-requires c =
    let count : c.loop-train.train ≡ length c.args.case.now.book =
    omega (arith, c.loop-train.auto.train-end, c.loop-train-test.false, c.trains-trains.ensures.value, ap length c.book.ensures) in
    subst AreTrainValues (sym (c.loop-train.invariant ∙ ap (value_list (least_price c.args.case.now c.args.allowed.now.lists)) count))
    (plain_values c.args.case.now c.args.allowed.now.lists c.requires (subst IsBook c.book.ensures c.trains-trains.ensures.limits))

pub returns : goal.returns
returns c =
    let count : c.loop-train.train ≡ length c.args.case.now.book =
    omega (arith, c.loop-train.auto.train-end, c.loop-train-test.false, c.trains-trains.ensures.value, ap length c.book.ensures) in
    plain_made c.args.case.now c.args.allowed.now.lists c.bare_leaf.result c.bare_leaf.ensures.q
    (c.bare_leaf.ensures.u ∙ c.loop-train.invariant ∙ ap (value_list (least_price c.args.case.now c.args.allowed.now.lists)) count)
    c.bare_leaf.ensures.v c.bare_leaf.ensures.alpha c.bare_leaf.ensures.beta
