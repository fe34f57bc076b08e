use Rattle.std.proofs.Common.{◌≤◌, ◌∙◌, sym, ap, subst, arith, rules, FitsSigned, unsigned_abs, int_div}
use Rattle.std.specs.Int.{w128}
use Rattle.std.specs.Map.Iter.{deref}
use Rattle.std.specs.Prelude.{◌^◌}
use Rattle.std.proofs.lemmas.Int.{to_z-of_z}
use Rattle.std.proofs.lemmas.List.Elements.{All-cons}
use Rattle.std.proofs.lemmas.Map.Iter.{rest_more}
use Rattle.dual_leaves.specs.Divided.{AreSmall}
use Rattle.dual_leaves.proofs.divide.too_wide.Goals as goal

pub loop-value-preserved : goal.loop-value-preserved
loop-value-preserved g c =
    let fn : FitsSigned w128 c.quotient-number.result = search rules in
    let fv : FitsSigned w128 c.in-Some.value.now = search rules in
    let fd : FitsSigned w128 c.args.divisor.now = search rules in
    let is = simp to_z-of_z at c.quotient-number.ensures in
    let size = simp to_z-of_z at c.unsigned_abs.ensures.value in
    let most = c.if-unsigned_abs-gt-MOST_SIZE.false in
    let next = rest_more deref c.loop-value.value-iterator c.next.new.self c.next.result c.in-Some.value c.in-Some.is c.next.ensures.steps in
    let small : unsigned_abs (int_div c.in-Some.value.now c.args.divisor.now) ≤ 10 ^ 30 = (let e = size ∙ ap unsigned_abs is in omega (arith, most, e)) in
    λ all. c.loop-value.invariant (subst (AreSmall c.args.divisor.now) (sym next) (All-cons (λ z. unsigned_abs (int_div z c.args.divisor.now) ≤ 10 ^ 30) c.in-Some.value.now c.next.new.self small all))
