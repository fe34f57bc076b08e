use Rattle.std.proofs.Common.{rules, arith, ◌≡◌, ◌∙◌, ap, FitsSigned, List, [], ◌∷◌, ◌++◌, ℤ, ℕ, ◌-ℤ◌, ◌*ℤ◌, length, map}
use Rattle.std.specs.Int.{w128}
use Rattle.std.proofs.lemmas.Int.{to_z-of_z}
use Rattle.std.proofs.lemmas.List.{length-map, length_push}
use Rattle.ratio.proofs.Progress.{written_back}
use Rattle.ratio.specs.Cells.{cell_at}
use Rattle.exact_lp.specs.Tables.{combination}
use Rattle.exact_lp.proofs.Started.{column_table}
use Rattle.exact_lp.proofs.build.add_priced.Goals as goal

pub returns-clause-table : goal.returns-clause-table
returns-clause-table c =
    let rows = c.args.table.now.rows.items in
    let cost = c.args.table.now.cost in
    let spares = c.args.table.now.spares.items in
    let values = c.args.values.now in
    let news = c.add_cells.new.rows in
    let widen : List ℕ → List ℤ → List ℤ = λ ss row. row ++ combination row ss values ∷ [] in
    let made : news ≡ map (widen spares) rows =
    c.in_ok-add_cells.ensures.added ∙ (λ i. map (widen (c.deref.ensures.value i)) (c.deref_mut.ensures.value i)) in
    let long : length news ≡ length rows = ap length made ∙ length-map rows (widen spares) in
    let back = written_back c.args.table.now.rows.len news rows (omega (arith, c.args.table.now.rows.ok.0, long)) in
    let f0 : FitsSigned w128 c.in_ok-paid.paid = search rules in
    let f1 : FitsSigned w128 c.in_ok-full.full = search rules in
    let f2 : FitsSigned w128 c.cell.result = search rules in
    let f3 : FitsSigned w128 c.args.price = c.ranges.price in
    let f4 : FitsSigned w128 c.in_ok-value.value = search rules in
    let paid : c.in_ok-paid.paid ≡ combination cost spares values = c.in_ok-paid.ensures.value ∙ ap (λ (ss : List ℕ). combination cost ss values) c.deref-2.ensures.value in
    let full : c.in_ok-full.full ≡ cell_at cost 1 *ℤ c.args.price = simp to_z-of_z at c.in_ok-full.ensures.value ∙ ap (λ (z : ℤ). z *ℤ c.args.price) c.cell.ensures in
    let value : c.in_ok-value.value ≡ combination cost spares values -ℤ cell_at cost 1 *ℤ c.args.price =
    let h = simp to_z-of_z at c.in_ok-value.ensures.value in h ∙ (λ i. paid i -ℤ full i) in
    let added : c.append.new.row ≡ cost ++ c.in_ok-value.value ∷ [] = simp to_z-of_z at c.in_ok-append.ensures.added in
    column_table rows cost (length c.args.table.now.variables.items) c.args.table.now.basis.items spares c.requires.table values c.args.price c.in_ok-value.value _ _ _
    (back ∙ made) added value c.requires.price (ap length c.in_ok-push.ensures.items ∙ length_push c.args.table.now.variables.items _)
