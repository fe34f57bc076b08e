use Rattle.std.proofs.Common.{◌≡◌, rules, arith, neg_ℤ, ◌*ℤ◌, FitsSigned}
use Rattle.std.specs.Int.{w128}
use Rattle.std.proofs.lemmas.Int.{ints, to_z-of_z}
use Rattle.dual_leaves.proofs.Shares.{share_added}
use Rattle.dual_leaves.proofs.pairs.add_share.Goals as goal

pub returns-clause-added : goal.returns-clause-added
returns-clause-added c =
    let fc : FitsSigned w128 c.args.cell.now = search rules in
    let fv : FitsSigned w128 c.args.value.now = search rules in
    let fp : FitsSigned w128 c.in_ok-product.field-0 = search rules in
    let fs : FitsSigned w128 c.in_ok-share.share = search rules in
    let added = simp to_z-of_z at c.in_ok-add.ensures.added in
    let p = simp to_z-of_z at c.in_ok-product.ensures.value in
    let s = simp to_z-of_z at c.in_ok-share.ensures.value in
    let share : c.in_ok-share.share ≡ neg_ℤ (c.args.value.now *ℤ c.args.cell.now) = omega (arith, ints, p, s) in
    share_added c.args.sums.now.entries c.add.new.sums.entries c.args.key c.args.value.now c.args.cell.now c.in_ok-share.share added share
