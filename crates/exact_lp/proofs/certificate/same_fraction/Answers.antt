use Rattle.std.proofs.Common.{arith, ◌≡◌, FitsSigned, ℕ, Bool, IsTrue, ◌==◌}
use Rattle.std.specs.Int.{w128}
use Rattle.std.proofs.lemmas.Int.{to_z-of_z}
use Rattle.ratio.proofs.Fractions.{same_through, equal_from_cmp}
use Rattle.exact_lp.proofs.certificate.same_fraction.Goals as goal

told : (b : Bool) (n : ℕ) → b ≡ (n == 1) → IsTrue b → n ≡ 1
told b n e so = grind arith

pub returns : goal.returns
returns c so =
    let fa : FitsSigned w128 c.args.num = c.ranges.num in
    let fb : FitsSigned w128 c.args.den = c.ranges.den in
    let fc : FitsSigned w128 c.args.other_num = c.ranges.other_num in
    let fd : FitsSigned w128 c.args.other_den = c.ranges.other_den in
    let one = simp to_z-of_z at c.new.ensures in
    let two = simp to_z-of_z at c.new-2.ensures in
    let p = c.new.result in
    let r = c.new-2.result in
    same_through c.args.num c.args.den c.args.other_num c.args.other_den p.num p.den r.num r.den p.positive r.positive one two (equal_from_cmp _ _ c.cmp.result c.cmp.ensures (told _ _ c.eq.ensures so))
