use Rattle.std.proofs.Common.{List, [], ◌∷◌, ◌++◌, ℤ, pos, arith}
use Rattle.exact_lp.proofs.Pivoted.{mapped_step}
use Rattle.exact_lp.proofs.table.append_each.Goals as goal

pub loop-row-preserved : goal.loop-row-preserved
loop-row-preserved c =
    let f : List ℤ → List ℤ = λ row. row ++ pos 0 ∷ [] in
    mapped_step f c.args.rows.now c.loop-row.rows c.loop-row.row-index c.row-item.result c.append.new.row (omega arith) c.loop-row.invariant c.in_ok-append.ensures.added
