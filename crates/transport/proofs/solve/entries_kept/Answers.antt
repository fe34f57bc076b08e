use Rattle.std.proofs.Common.{List, ℕ, ◌<◌, length, ap, sym, ◌∙◌, arith, map, slice_index, subst}
use Rattle.std.specs.List.{All}
use Rattle.transport.specs.declared.entries.Entry.{Entry}
use Rattle.transport.specs.Kept.{IsShownSolved, whole_entry}
use Rattle.transport.proofs.Keeping.{kept_inside}
use Rattle.transport.proofs.Whole.{entry_rows, entry_columns, solved_bare}
use Rattle.transport.proofs.solve.entries_kept.Goals as goal

pub invariant_of-some_rows : goal.invariant_of-some_rows
invariant_of-some_rows g c = record { inside = λ k kl. let h = kept_inside c.args.left.now c.args.rows.now c.requires.rows k kl in omega (arith, c.requires.left) }

pub invariant_of-part : goal.invariant_of-part
invariant_of-part g c = record { inside = λ k kl. let h = kept_inside c.args.right.now c.args.columns.now c.requires.columns k kl in omega (arith, c.requires.right) }

pub whole_entries-requires-clause-rows : goal.whole_entries-requires-clause-rows
whole_entries-requires-clause-rows g c =
    let Rows : List Entry → Type 0 = λ l. All (λ e. e.row < length c.args.rows.now) l in
    let placed = c.in_ok-placed.placed in
    subst Rows (sym c.deref.ensures.value) (entry_rows (g.C.Cost.table c.args.cost.now) c.args.left.now c.args.right.now c.args.rows.now c.args.columns.now placed.entries.items placed.rows.items placed.columns.items c.requires.rows c.requires.columns c.in_ok-placed.ensures)

pub whole_entries-requires-clause-columns : goal.whole_entries-requires-clause-columns
whole_entries-requires-clause-columns g c =
    let Columns : List Entry → Type 0 = λ l. All (λ e. e.column < length c.args.columns.now) l in
    let placed = c.in_ok-placed.placed in
    subst Columns (sym c.deref.ensures.value) (entry_columns (g.C.Cost.table c.args.cost.now) c.args.left.now c.args.right.now c.args.rows.now c.args.columns.now placed.entries.items placed.rows.items placed.columns.items c.requires.rows c.requires.columns c.in_ok-placed.ensures)

pub returns : goal.returns
returns g c =
    let t = g.C.Cost.table c.args.cost.now in
    let placed = c.in_ok-placed.placed in
    let Q : List Entry → Type 0 = λ l. IsShownSolved t c.args.left.now c.args.right.now l in
    subst Q (sym (c.in_ok-entries.ensures ∙ ap (map (whole_entry c.args.rows.now c.args.columns.now)) c.deref.ensures.value))
    (solved_bare t c.args.left.now c.args.right.now c.args.rows.now c.args.columns.now placed.entries.items placed.rows.items placed.columns.items c.requires.rows c.requires.columns c.in_ok-placed.ensures)
