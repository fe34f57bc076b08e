use Rattle.std.proofs.Common.{◌≡◌, ℤ, subst, neg_ℤ, pos, ◌+ℤ◌, ◌-ℤ◌, ◌*ℤ◌, ap, ◌∙◌, arith, rules, FitsSigned}
use Rattle.std.specs.Int.{w128}
use Rattle.std.proofs.lemmas.Int.{ints, to_z-of_z}
use Rattle.pair_prices.specs.Plan.{platform_price}
use Rattle.dual_leaves.specs.Account.{of_number, on_platform}
use Rattle.dual_leaves.specs.Orders.{minute_order}
use Rattle.dual_leaves.specs.Sums.{IsAdded}
use Rattle.dual_leaves.specs.Priced.{use_price}
use Rattle.dual_leaves.proofs.Payments.{first_paid}
use Rattle.dual_leaves.proofs.excess.pay_platform.Goals as goal

pub returns-clause-paid : goal.returns-clause-paid
returns-clause-paid c =
    let fs : FitsSigned w128 c.args.scale.now = search rules in
    let fh : FitsSigned w128 c.in_ok-held_down.held_down = search rules in
    let fp : FitsSigned w128 c.in_ok-price.price = search rules in
    let fm : FitsSigned w128 c.in_ok-most.most = search rules in
    let ff : FitsSigned w128 c.in_ok-paid_for.field-0 = search rules in
    let fr : FitsSigned w128 c.in_ok-rest.rest = search rules in
    let fc : FitsSigned w128 c.from.result = search rules in
    let price = simp to_z-of_z at c.in_ok-price.ensures.value in
    let most = simp to_z-of_z at c.in_ok-most.ensures.value in
    let rest = simp to_z-of_z at c.in_ok-rest.ensures.value in
    let down = c.in_ok-held_down.ensures.value in
    let paid = c.in_ok-paid_for.ensures.value in
    let cost : c.from.result ≡ pos (platform_price c.args.case.now c.args.platform) = c.from.ensures ∙ ap pos c.price_of.ensures in
    let worth : c.in_ok-price.price ≡ use_price c.args.case.now c.args.scale.now c.args.platform = price ∙ ap (λ z. c.args.scale.now *ℤ z) cost in
    let left : c.in_ok-rest.rest ≡ (use_price c.args.case.now c.args.scale.now c.args.platform +ℤ of_number c.args.uses.now.entries c.args.platform)
    -ℤ on_platform c.args.v.now.entries c.args.platform = omega (arith, ints, worth, most, rest, down, paid) in
    let added = subst (λ (z : ℤ). IsAdded minute_order c.args.v.now.entries (record { platform = c.args.platform; minute = neg_ℤ (pos 30) }) z c.add.new.sums.entries)
    (to_z-of_z w128 c.in_ok-rest.rest fr) c.in_ok-add.ensures.added in
    first_paid c.args.case.now c.args.scale.now c.args.uses.now.entries c.requires.least c.args.platform c.args.v.now.entries c.requires.most
    c.in_ok-rest.rest c.add.new.sums.entries left added
