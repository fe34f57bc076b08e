use Rattle.std.proofs.Common.{List, ℕ, ◌<◌, length, ap, sym, ◌∙◌, arith, map, slice_index, subst}
use Rattle.std.specs.List.{All}
use Rattle.transport.specs.declared.entries.Entry.{Entry}
use Rattle.transport.specs.Core.{IsSolved}
use Rattle.transport.specs.Kept.{whole_entry}
use Rattle.transport.specs.Spread.{AreMostColumns, AreMostRows}
use Rattle.transport.proofs.Keeping.{kept_inside}
use Rattle.transport.proofs.Whole.{entry_rows, entry_columns, solved_spread}
use Rattle.transport.proofs.solve.solve_kept.Goals as goal

pub invariant_of-some_rows : goal.invariant_of-some_rows
invariant_of-some_rows g c = record { inside = λ k kl. let h = kept_inside c.args.left.now c.args.rows.now c.requires.rows k kl in omega (arith, c.requires.left) }

pub invariant_of-part : goal.invariant_of-part
invariant_of-part g c = record { inside = λ k kl. let h = kept_inside c.args.right.now c.args.columns.now c.requires.columns k kl in omega (arith, c.requires.right) }

pub whole_entries-requires-clause-rows : goal.whole_entries-requires-clause-rows
whole_entries-requires-clause-rows g c =
    let Rows : List Entry → Type 0 = λ l. All (λ e. e.row < length c.args.rows.now) l in
    let placed = c.in_ok-placed.placed in
    subst Rows (sym c.deref-3.ensures.value) (entry_rows (g.C.Cost.table c.args.cost.now) c.args.left.now c.args.right.now c.args.rows.now c.args.columns.now placed.entries.items placed.rows.items placed.columns.items c.requires.rows c.requires.columns c.in_ok-placed.ensures)

pub whole_entries-requires-clause-columns : goal.whole_entries-requires-clause-columns
whole_entries-requires-clause-columns g c =
    let Columns : List Entry → Type 0 = λ l. All (λ e. e.column < length c.args.columns.now) l in
    let placed = c.in_ok-placed.placed in
    subst Columns (sym c.deref-3.ensures.value) (entry_columns (g.C.Cost.table c.args.cost.now) c.args.left.now c.args.right.now c.args.rows.now c.args.columns.now placed.entries.items placed.rows.items placed.columns.items c.requires.rows c.requires.columns c.in_ok-placed.ensures)

pub returns : goal.returns
returns g c =
    let t = g.C.Cost.table c.args.cost.now in
    let placed = c.in_ok-placed.placed in
    let all_rows = c.in_ok-row_prices.row_prices.items in
    let all_columns = c.in_ok-column_prices.column_prices.items in
    let A : List ℕ → Type 0 = λ l. AreMostColumns (λ a j. t (slice_index c.args.rows.now a) j) l all_columns in
    let most_columns = subst A c.deref.ensures.value c.in_ok-column_prices.ensures.most in
    let B : List ℕ → Type 0 = λ l. AreMostRows t l all_rows in
    let most_rows = subst B c.deref-2.ensures.value c.in_ok-row_prices.ensures.most in
    let Q : List Entry → Type 0 = λ l. IsSolved t c.args.left.now c.args.right.now l all_rows all_columns in
    subst Q (sym (c.in_ok-entries.ensures ∙ ap (map (whole_entry c.args.rows.now c.args.columns.now)) c.deref-3.ensures.value))
    (solved_spread t c.args.left.now c.args.right.now c.args.rows.now c.args.columns.now placed.entries.items placed.rows.items placed.columns.items c.requires.rows c.requires.columns c.in_ok-placed.ensures
    all_rows all_columns (c.in_ok-row_prices.ensures.length ∙ sym c.requires.left) (c.in_ok-column_prices.ensures.length ∙ sym c.requires.right) most_columns most_rows)
