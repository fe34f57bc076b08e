use Rattle.std.proofs.Common.{FitsSigned}
use Rattle.std.specs.Int.{w128}
use Rattle.std.proofs.lemmas.Int.{to_z-of_z}
use Rattle.ratio.proofs.row.combination_fits.Goals as goal

pub returns : goal.returns
returns c =
    let fp : FitsSigned w128 c.args.p = c.ranges.p in
    let fs : FitsSigned w128 c.args.s = c.ranges.s in
    simp to_z-of_z at c.each_cell_fits.ensures
