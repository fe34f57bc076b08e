use Rattle.std.proofs.Common.{arith, ◌≡◌, ◌≢◌, ◌<◌, ◌∙◌, ap, sym, subst, ℕ, List, [], length, set, ℤ, pos, ◌<ℤ◌, of_z}
use Rattle.std.specs.Int.{w128}
use Rattle.std.proofs.lemmas.List.{get_or_read, length-set}
use Rattle.ratio.specs.Cells.{cell_at}
use Rattle.ratio.proofs.Progress.{written_back}
use Rattle.exact_lp.specs.Places.{place_of}
use Rattle.exact_lp.specs.Tables.{Clears, ClearsEach, IsTable, IsTurned, row_at}
use Rattle.exact_lp.proofs.Pivoted.{pivoted}
use Rattle.exact_lp.proofs.table.Table.swap.Goals as goal

pub returns-clause-table : goal.returns-clause-table
returns-clause-table c =
    let rows = c.args.self.now.rows.items in
    let at = c.args.swap.at in
    let v = c.args.swap.variable in
    let row = c.turn_up.new.row in
    let news = c.clear_all.new.rows in
    let taken = c.replace-row.new.dest in
    let inside : at < length rows = omega (arith, c.args.self.now.rows.ok.0, c.len-2.ensures) in
    let within : v < length c.args.self.now.variables.items = omega (arith, c.args.self.now.variables.ok.0, c.len.ensures) in
    let was : c.replace-row.result ≡ row_at rows at = c.replace-row.ensures.value ∙ get_or_read rows at c.index_mut.result.now inside c.index_mut.ensures.value [] in
    let turned : IsTurned (row_at rows at) row = subst (λ (r : List ℤ). IsTurned r row) was c.in_ok-turn_up.ensures.turned in
    let place_is : c.place-at.result ≡ place_of v = c.place-at.ensures in
    let some : cell_at c.replace-row.result c.place-at.result ≢ pos 0 =
    λ z. c.if-entry-eq0.false (ap (of_z w128) (c.entry.ensures ∙ ap (λ (p : ℕ). cell_at (row_at rows at) p) (sym place_is) ∙ ap (λ (r : List ℤ). cell_at r c.place-at.result) (sym was) ∙ z)) in
    let above : pos 0 <ℤ cell_at row (place_of v) = subst (λ (p : ℕ). pos 0 <ℤ cell_at row p) place_is (c.in_ok-turn_up.ensures.above some) in
    let lent : c.deref_mut.result.now ≡ set rows at taken = c.deref_mut.ensures.value in
    let long : length news ≡ length rows = c.clear_all.auto.rows ∙ ap length lent ∙ length-set rows at taken in
    let each : ClearsEach row (place_of v) (set rows at taken) news =
    subst (λ (p : ℕ). ClearsEach row p (set rows at taken) news) place_is (subst (λ (xs : List (List ℤ)). ClearsEach row c.place-at.result xs news) lent c.in_ok-clear_all.ensures.cleared) in
    let cost : Clears row (place_of v) c.args.self.now.cost c.clear.new.row = subst (λ (p : ℕ). Clears row p c.args.self.now.cost c.clear.new.row) place_is c.in_ok-clear.ensures.cleared in
    let back = written_back c.args.self.now.rows.len news (set rows at taken) (omega (arith, c.args.self.now.rows.ok.0, long)) in
    let Is : List (List ℤ) → Type 0 =
    λ xs. IsTable (set xs at row) c.clear.new.row (length c.args.self.now.variables.items) (set c.args.self.now.basis.items at v) c.args.self.now.spares.items in
    subst Is (sym back) (pivoted rows c.args.self.now.cost (length c.args.self.now.variables.items) c.args.self.now.basis.items c.args.self.now.spares.items c.requires at v inside within row turned above taken news c.clear.new.row long each cost)
