use Rattle.std.proofs.Common.{◌≡◌, List, ℕ, ◌<◌, ◌≤◌, length, ap, sym, ◌∙◌, arith, map, slice_index, subst, sum}
use Rattle.std.specs.List.{All}
use Rattle.transport.specs.declared.entries.Entry.{Entry}
use Rattle.transport.specs.Core.{cost_in}
use Rattle.transport.specs.Kept.{IsSolvedAt}
use Rattle.transport.proofs.Duality.{weight_in}
use Rattle.transport.proofs.Keeping.{kept_inside, sum_kept}
use Rattle.transport.proofs.Whole.{entry_rows, entry_columns, solved_cost, weight_placed}
use Rattle.transport.proofs.solve.cost_kept.Goals as goal

pub invariant_of-some_rows : goal.invariant_of-some_rows
invariant_of-some_rows g c = record { inside = λ k kl. let h = kept_inside c.args.left.now c.args.rows.now c.requires.rows k kl in omega (arith, c.requires.left) }

pub invariant_of-part : goal.invariant_of-part
invariant_of-part g c = record { inside = λ k kl. let h = kept_inside c.args.right.now c.args.columns.now c.requires.columns k kl in omega (arith, c.requires.right) }

pub total_cost-requires-clause-rows : goal.total_cost-requires-clause-rows
total_cost-requires-clause-rows g c =
    let Rows : List Entry → Type 0 = λ l. All (λ e. e.row < length c.args.rows.now) l in
    let placed = c.in_ok-placed.placed in
    subst Rows (sym c.deref.ensures.value) (entry_rows (g.C.Cost.table c.args.cost.now) c.args.left.now c.args.right.now c.args.rows.now c.args.columns.now placed.entries.items placed.rows.items placed.columns.items c.requires.rows c.requires.columns c.in_ok-placed.ensures)

pub total_cost-requires-clause-columns : goal.total_cost-requires-clause-columns
total_cost-requires-clause-columns g c =
    let Columns : List Entry → Type 0 = λ l. All (λ e. e.column < length c.args.columns.now) l in
    let placed = c.in_ok-placed.placed in
    subst Columns (sym c.deref.ensures.value) (entry_columns (g.C.Cost.table c.args.cost.now) c.args.left.now c.args.right.now c.args.rows.now c.args.columns.now placed.entries.items placed.rows.items placed.columns.items c.requires.rows c.requires.columns c.in_ok-placed.ensures)

pub total_cost-requires-clause-fits : goal.total_cost-requires-clause-fits
total_cost-requires-clause-fits g c =
    let t = g.C.Cost.table c.args.cost.now in
    let placed = c.in_ok-placed.placed in
    let e : weight_in c.deref.result.now ≡ sum c.args.left.now =
    ap weight_in c.deref.ensures.value
    ∙ weight_placed (λ a b. t (slice_index c.args.rows.now a) (slice_index c.args.columns.now b)) (map (slice_index c.args.left.now) c.args.rows.now) (map (slice_index c.args.right.now) c.args.columns.now) placed.entries.items placed.rows.items placed.columns.items c.in_ok-placed.ensures
    ∙ sum_kept c.args.left.now c.args.rows.now c.requires.rows in
    let Small : ℕ → Type 0 = λ n. n ≤ 1000000000000000000000000 in
    subst Small (sym e) c.requires.scale

pub returns-clause-solved : goal.returns-clause-solved
returns-clause-solved g c =
    let t = g.C.Cost.table c.args.cost.now in
    let placed = c.in_ok-placed.placed in
    let part : ℕ → ℕ → ℕ = λ a b. t (slice_index c.args.rows.now a) (slice_index c.args.columns.now b) in
    let Q : ℕ → Type 0 = λ n. IsSolvedAt t c.args.left.now c.args.right.now n in
    subst Q (sym (c.total_cost.ensures.value ∙ ap (cost_in part) c.deref.ensures.value))
    (solved_cost t c.args.left.now c.args.right.now c.args.rows.now c.args.columns.now placed.entries.items placed.rows.items placed.columns.items c.requires.rows c.requires.columns c.in_ok-placed.ensures)
