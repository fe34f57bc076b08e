use Rattle.std.proofs.Common.{rules, arith, ap, ◌∙◌, FitsSigned, get_or, List, [], ◌∷◌, ◌++◌, ℤ}
use Rattle.std.specs.Int.{w128}
use Rattle.std.proofs.lemmas.Int.{to_z-of_z}
use Rattle.exact_lp.specs.Tables.{combination}
use Rattle.exact_lp.proofs.Pivoted.{mapped_step}
use Rattle.exact_lp.proofs.build.add_cells.Goals as goal

pub loop-row-preserved : goal.loop-row-preserved
loop-row-preserved c =
    let f : List ℤ → List ℤ = λ row. row ++ combination row c.args.spares.now c.args.values.now ∷ [] in
    let f0 : FitsSigned w128 c.in_ok-value.value = search rules in
    let row = get_or c.loop-row.rows c.loop-row.row-index c.row-item.result in
    let added = simp to_z-of_z at c.in_ok-append.ensures.added in
    record {
      added = mapped_step f c.args.rows.now c.loop-row.rows c.loop-row.row-index c.row-item.result c.append.new.row (omega arith) c.loop-row.invariant.added
          (added ∙ ap (λ (z : ℤ). row ++ z ∷ []) c.in_ok-value.ensures.value);
      ledger = omega (arith, c.in_ok-value.ensures.ledger, c.loop-row.invariant.ledger);
    }
