use Rattle.std.proofs.Common.{arith, ◌<◌, ◌^◌, FitsSigned, get_or}
use Rattle.std.specs.Int.{w128}
use Rattle.std.proofs.lemmas.Bool.Decides.{nat_tests}
use Rattle.std.proofs.lemmas.Int.{to_z-of_z}
use Rattle.ratio.proofs.Rows.{product_most}
use Rattle.ratio.proofs.row.are_products_small.Goals as goal

pub returns-in-Some : goal.returns-in-Some
returns-in-Some c = λ t k d kl.
    let ff : FitsSigned w128 c.args.factor = c.ranges.factor in
    let size = simp to_z-of_z at c.unsigned_abs.ensures.value in
    let most : c.in-Some.most < 2 ^ 126 = grind (arith, nat_tests) in
    let product = product_most c.args.factor (get_or c.args.cells.now k d) c.most_size.result c.in-Some.most (c.most_size.ensures k d kl) (rw size at c.in-Some.ensures.1) in
    omega arith
