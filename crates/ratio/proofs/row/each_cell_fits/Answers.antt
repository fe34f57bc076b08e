use Rattle.std.proofs.Common.{rules, FitsSigned, get_or, pos, ℕ, below_more, refl}
use Rattle.std.specs.Int.{w128}
use Rattle.std.proofs.lemmas.Int.{to_z-of_z}
use Rattle.ratio.specs.Cells.{CellFits}
use Rattle.ratio.proofs.row.each_cell_fits.Goals as goal

pub returns-then-not-cell_fits : goal.returns-then-not-cell_fits
returns-then-not-cell_fits c =
    let fp : FitsSigned w128 c.args.p = c.ranges.p in
    let fs : FitsSigned w128 c.args.s = c.ranges.s in
    let fx : FitsSigned w128 (get_or c.args.cells.now c.loop-i.i (pos 0)) = search rules in
    let fy : FitsSigned w128 (get_or c.args.other.now c.loop-i.i (pos 0)) = search rules in
    let fails = simp to_z-of_z at c.if-not-cell_fits.ensures in
    (λ t. cc, λ all. fails.1 (all c.loop-i.i c.loop-i-test.true))

pub loop-i-preserved : goal.loop-i-preserved
loop-i-preserved c =
    let fx : FitsSigned w128 (get_or c.args.cells.now c.loop-i.i (pos 0)) = search rules in
    let fy : FitsSigned w128 (get_or c.args.other.now c.loop-i.i (pos 0)) = search rules in
    let fits = (c.if-not-cell_fits.ensures).0 refl in
    let fp : FitsSigned w128 c.args.p = c.ranges.p in
    let fs : FitsSigned w128 c.args.s = c.ranges.s in
    let At : ℕ → Type 0 = λ k. CellFits c.args.p c.args.s (get_or c.args.cells.now k (pos 0)) (get_or c.args.other.now k (pos 0)) in
    let before = simp to_z-of_z at c.loop-i.invariant in
    let here = simp to_z-of_z at fits in
    simp to_z-of_z (below_more At c.loop-i.i before here)
