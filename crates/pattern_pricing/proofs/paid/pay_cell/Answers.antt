use Rattle.std.proofs.Common.{ℤ, pos, ◌-ℤ◌, ap, ◌∙◌, rules, arith, get_or, FitsSigned, ◌<◌, length}
use Rattle.std.specs.Int.{w128}
use Rattle.std.proofs.lemmas.Int.{to_z-of_z}
use Rattle.pattern_pricing.specs.Reduced.{at}
use Rattle.pattern_pricing.proofs.Payments.{cell_set}
use Rattle.pattern_pricing.proofs.paid.pay_cell.Goals as goal

pub returns-clause-value : goal.returns-clause-value
returns-clause-value c =
    let xs = c.args.reduced.now in
    let cell = c.args.cell.now in
    let inside : cell.column < length xs = omega (arith, c.if-column-reduced.false) in
    let f0 : FitsSigned w128 (get_or xs cell.column (pos 0)) = search rules in
    let f1 : FitsSigned w128 c.in_ok-paid.paid = search rules in
    let f2 : FitsSigned w128 c.in_ok-reduced.field-0 = search rules in
    let f3 : FitsSigned w128 c.args.value.now = search rules in
    let f4 : FitsSigned w128 cell.value = search rules in
    let paid = simp to_z-of_z at c.in_ok-paid.ensures.value in
    let rest = simp to_z-of_z at c.in_ok-reduced.ensures.value in
    simp to_z-of_z (cell_set c.args.value.now cell xs c.in_ok-reduced.field-0 inside (rest ∙ ap (λ (p : ℤ). at xs cell.column -ℤ p) paid))
