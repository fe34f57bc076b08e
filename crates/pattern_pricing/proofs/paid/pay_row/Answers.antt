use Rattle.std.proofs.Common.{◌≡◌, ℤ, List, pos, ◌-ℤ◌, ◌+◌, ◌<◌, drop, length, unsigned_abs, sym, ap, ◌∙◌, subst, arith}
use Rattle.std.proofs.lemmas.List.{drop_all}
use Rattle.exact_lp.specs.declared.row.RowCell.{RowCell}
use Rattle.pattern_pricing.specs.Reduced.{at, cell_sizes, paid_by_cells, HaveRoom}
use Rattle.pattern_pricing.proofs.Payments.{on_err, cells_step, cells_room, cell_room, all_paid, paid_once}
use Rattle.pattern_pricing.proofs.paid.pay_row.Goals as goal

pub returns-in_err-pay_cell-clause-never : goal.returns-in_err-pay_cell-clause-never
returns-in_err-pay_cell-clause-never c =
    let v = c.args.value.now in
    let cells = c.as_slice-cells.result.now in
    let i = c.loop-cell.cell-index in
    let same = c.loop-cell.auto.reduced in
    let P : List RowCell → Type 0 = λ cs. HaveRoom c.args.reduced.now (cell_sizes v cs) in
    on_err c.from_residual.result _ (λ room.
    let wide = subst P (sym c.as_slice-cells.ensures) room in
    c.in_err-pay_cell.ensures.never (λ k kl.
    cell_room v cells i (record { column = 0; value = pos 0 }) (unsigned_abs (at c.loop-cell.reduced k)) (unsigned_abs (at c.args.reduced.now k) + cell_sizes v cells)
    c.loop-cell-test.true (wide k (omega (arith, kl, same))) (c.loop-cell.invariant.room k kl)))

pub loop-cell-preserved : goal.loop-cell-preserved
loop-cell-preserved c =
    let v = c.args.value.now in
    let cells = c.as_slice-cells.result.now in
    let i = c.loop-cell.cell-index in
    let d : RowCell = record { column = 0; value = pos 0 } in
    let same = c.pay_cell.auto.reduced in
    let so_far = c.loop-cell.invariant.ledger in
    let here = c.in_ok-pay_cell.ensures.ledger in
    record {
      value = λ n h. let k : n < length c.loop-cell.reduced = omega (arith, h, same) in
          cells_step v cells i d n (at c.loop-cell.reduced n) (at c.pay_cell.new.reduced n) _ c.loop-cell-test.true (c.in_ok-pay_cell.ensures.value n k) (c.loop-cell.invariant.value n k);
      ledger = omega (arith, so_far, here);
      room = λ n h. let k : n < length c.loop-cell.reduced = omega (arith, h, same) in
          cells_room v cells i d n (at c.loop-cell.reduced n) (at c.pay_cell.new.reduced n) _ c.loop-cell-test.true (c.in_ok-pay_cell.ensures.value n k) (c.loop-cell.invariant.room n k);
    }

pub returns-clause-value : goal.returns-clause-value
returns-clause-value c =
    let v = c.args.value.now in
    let cells = c.as_slice-cells.result.now in
    let i = c.loop-cell.cell-index in
    let same = c.loop-cell.auto.reduced in
    let done = c.loop-cell-test.false in
    λ n h.
    let none = ap (λ cs. paid_by_cells v cs n) (drop_all i cells (omega (arith, done))) in
    let paid = all_paid (at c.args.reduced.now n) (at c.loop-cell.reduced n) (paid_by_cells v cells n) (paid_by_cells v (drop i cells) n) none
    (c.loop-cell.invariant.value n (omega (arith, h, same))) in
    let P : List RowCell → Type 0 = λ cs. at c.loop-cell.reduced n ≡ at c.args.reduced.now n -ℤ paid_by_cells v cs n in
    subst P c.as_slice-cells.ensures paid
    ∙ ap (λ (z : ℤ). at c.args.reduced.now n -ℤ z) (paid_once v c.args.row.now.cells n c.args.row.now.ascending)
