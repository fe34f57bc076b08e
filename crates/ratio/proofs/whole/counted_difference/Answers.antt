use Rattle.std.proofs.Common.{rules, FitsSigned}
use Rattle.std.specs.Int.{w128}
use Rattle.std.proofs.lemmas.Int.{to_z-of_z}
use Rattle.ratio.proofs.Fractions.{difference_from}
use Rattle.ratio.proofs.whole.counted_difference.Goals as goal

pub returns-clause-value : goal.returns-clause-value
returns-clause-value c =
    let fa : FitsSigned w128 c.args.a = c.ranges.a in
    let fb : FitsSigned w128 c.args.b = c.ranges.b in
    let fn : FitsSigned w128 c.in_ok-sub.field-0.num = search rules in
    let a = simp to_z-of_z at c.as_fraction.ensures.num in
    let b = simp to_z-of_z at c.as_fraction-2.ensures.num in
    let r = c.in_ok-sub.field-0 in
    let same = c.in_ok-sub.ensures.value in
    let is = rw (a, b) at (difference_from r.num r.den _ _ _ _ r.positive r.lowest c.as_fraction.ensures.den c.as_fraction-2.ensures.den same) in
    simp to_z-of_z is
