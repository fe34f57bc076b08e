use Rattle.std.proofs.Common.{rules, arith, FitsSigned, get_or, pos, subst, ℕ, take, ◌+◌}
use Rattle.std.specs.Int.{w128}
use Rattle.std.proofs.lemmas.List.{take_all}
use Rattle.std.proofs.lemmas.Int.{to_z-of_z}
use Rattle.ratio.specs.Cells.{IsContent}
use Rattle.ratio.proofs.Rows.{IsContent-more, IsContent-one}
use Rattle.ratio.proofs.row.content.Goals as goal
use Rattle.ratio.proofs.row.content.Goals.{After-gcd-common}

-- the content of the cells up to this one
more : (c : After-gcd-common) → IsContent c.gcd-common.result (take (c.loop-x.x-index + 1) c.args.cells.now)
more c =
    let f : FitsSigned w128 (get_or c.args.cells.now c.loop-x.x-index (pos 0)) = search rules in
    let size = simp to_z-of_z at c.unsigned_abs.ensures.value in
    IsContent-more c.loop-x.common c.gcd-common.result c.loop-x.x-index c.args.cells.now (pos 0) c.loop-x-test.true c.loop-x.invariant (rw size at c.gcd-common.ensures)

pub returns-then-common-eq1 : goal.returns-then-common-eq1
returns-then-common-eq1 c =
    let P : ℕ → Type 0 = λ g. IsContent g (take (c.loop-x.x-index + 1) c.args.cells.now) in
    IsContent-one (c.loop-x.x-index + 1) c.args.cells.now (subst P c.if-common-eq1.true (more (goal.at.returns-then-common-eq1 c).After-gcd-common))

pub loop-x-preserved : goal.loop-x-preserved
loop-x-preserved c = more (goal.at.loop-x-preserved c).After-gcd-common

pub returns : goal.returns
returns c = let e = take_all c.loop-x.x-index c.args.cells.now (omega arith) in rw e at c.loop-x.invariant
